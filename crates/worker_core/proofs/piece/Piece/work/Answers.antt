use Rattle.std.proofs.Common.{arith, ◌≡◌, ◌≤◌, ◌+◌, suc, OnOk, Result, length, sym, subst, ◌∙◌}
use Rattle.numbered_runs.specs.declared.refusal.Refusal.{Refusal}
use Rattle.std.specs.Prelude.{reverse}
use Rattle.activations.specs.Given.{lent}
use Rattle.numbered_runs.specs.Named.{named_state}
use Rattle.stepped_runs.specs.Pieces.{PlainPiece, alone, worked}
use Rattle.worker_core.specs.Strands.{layers_of}
use Rattle.worker_core.proofs.Working.{work_taken, all_given}
use Rattle.worker_core.proofs.piece.Piece.work.Goals.{in-Err, in-Ok}
use Rattle.worker_core.proofs.piece.Piece.work.Goals as goal

pub returns-after-advance-clause-taken : goal.returns-after-advance-clause-taken
returns-after-advance-clause-taken g c =
    let old : PlainPiece = record { strand = c.self.inside.strand; deque = reverse c.self.inside.deque.items; state = named_state c.self.inside.state } in
    let held : length c.args.pool.now.kits + layers_of old ≤ c.args.pool.now.total = subst (λ (p : PlainPiece). length c.args.pool.now.kits + layers_of p ≤ c.args.pool.now.total) (sym c.self.view_is) c.requires.room in
    let room : suc (length c.self.inside.strand.lower) + length c.args.pool.now.kits ≤ c.args.pool.now.total = omega (arith, held) in
    elim c.match-advance.branch [
      | in-Err w ↦ subst (λ (r : Result Unit Refusal). OnOk r (worked (lent c.args.setting) (length c.args.pool.now.kits) c.args.self.now ≡ alone (length c.advance.new.kits.kits) (record old { strand = c.advance.new.self }))) (sym w.result-is) tt
      | in-Ok w ↦ subst (λ (r : Result Unit Refusal). OnOk r (worked (lent c.args.setting) (length c.args.pool.now.kits) c.args.self.now ≡ alone (length c.advance.new.kits.kits) (record old { strand = c.advance.new.self }))) (sym w.result-is)
          (subst (λ (p : PlainPiece). worked (lent c.args.setting) (length c.args.pool.now.kits) p ≡ alone (length c.advance.new.kits.kits) (record old { strand = c.advance.new.self })) c.self.view_is
          (work_taken (lent c.args.setting) old c.advance.new.self c.args.pool.now.kits c.advance.new.kits.kits (sym c.pause.ensures.pause ∙ c.in-Working.is) w.in-Ok.ensures.advanced (c.advance.ensures.kits room)))
    ]

pub returns-after-advance-clause-free : goal.returns-after-advance-clause-free
returns-after-advance-clause-free g c = all_given c.args.setting.program.now.kinds c.advance.new.kits.kits c.advance.ensures.given_kinds

pub returns-after-advance-clause-kits : goal.returns-after-advance-clause-kits
returns-after-advance-clause-kits g c =
    let old : PlainPiece = record { strand = c.self.inside.strand; deque = reverse c.self.inside.deque.items; state = named_state c.self.inside.state } in
    let held : length c.args.pool.now.kits + layers_of old ≤ c.args.pool.now.total = subst (λ (p : PlainPiece). length c.args.pool.now.kits + layers_of p ≤ c.args.pool.now.total) (sym c.self.view_is) c.requires.room in
    let room : suc (length c.self.inside.strand.lower) + length c.args.pool.now.kits ≤ c.args.pool.now.total = omega (arith, held) in
    let same : length c.advance.new.self.lower + length c.advance.new.kits.kits ≡ length c.self.inside.strand.lower + length c.args.pool.now.kits = c.advance.ensures.kits room in
    let count : length c.advance.new.kits.kits + suc (length c.advance.new.self.lower) ≡ length c.args.pool.now.kits + layers_of old = omega (arith, same) in
    subst (λ (p : PlainPiece). length c.advance.new.kits.kits + suc (length c.advance.new.self.lower) ≡ length c.args.pool.now.kits + layers_of p) c.self.view_is count
