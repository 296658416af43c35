use Rattle.std.proofs.Common.{rules, arith, ◌≡◌, ◌≤◌, ◌<◌, ◌+◌, OnOk, IfErr, Ok, Some, None, [], All, length, map, slice_set, sym, ap, subst, ◌∙◌}
use Rattle.activations.specs.Given.{lent}
use Rattle.numbered_runs.specs.Named.{book_step}
use Rattle.stepped_runs.specs.Runs.{changed}
use Rattle.numbered_runs.specs.declared.refusal.Refusal.TheVariants.{NotThere}
use Rattle.worker_core.specs.Moves.{moved, takes_memory, RefusedAs, IsFit}
use Rattle.worker_core.specs.Folds.{LeavesMoved}
use Rattle.worker_core.specs.Strands.{PlainStrands, kits_in, layers_of, layers_in, held_at, AreFit}
use Rattle.worker_core.proofs.Finding.{held_within, none_refused, moves_taken, moves_refused}
use Rattle.worker_core.proofs.Moving.{moves_left, moves_keep}
use Rattle.worker_core.proofs.Kits.{piece_layers}
use Rattle.worker_core.proofs.Shares.{piece_fit, set_fit}
use Rattle.worker_core.proofs.strands.Strands.go.Goals as goal

pub index_mut-requires : goal.index_mut-requires
index_mut-requires g c =
    let here : held_at c.args.worker c.self.inside.pieces.items ≡ Some c.in-Some.number = sym (c.in-Some.ensures.held ∙ ap (held_at c.args.worker) c.deref.ensures.value) in
    let less : c.in-Some.number < length c.self.inside.pieces.items = held_within c.args.worker c.in-Some.number c.self.inside.pieces.items here in
    search rules

pub go-requires-clause-kinds : goal.go-requires-clause-kinds
go-requires-clause-kinds g c κs within =
    let here : held_at c.args.worker c.self.inside.pieces.items ≡ Some c.in-Some.number = sym (c.in-Some.ensures.held ∙ ap (held_at c.args.worker) c.deref.ensures.value) in
    let less : c.in-Some.number < length c.self.inside.pieces.items = held_within c.args.worker c.in-Some.number c.self.inside.pieces.items here in
    piece_fit c.args.setting.program.now.kinds c.args.self.now c.self.inside.pieces.items c.in-Some.number c.index_mut.result.now (sym (ap (λ (s : PlainStrands). s.pieces) c.self.view_is)) less c.index_mut.ensures.value c.requires.fit

pub go-requires-clause-free : goal.go-requires-clause-free
go-requires-clause-free g c κs within = subst (λ (s : PlainStrands). All (λ k. k ≡ c.args.setting.program.now.kinds) s.kits) (sym c.self.view_is) c.requires.fit.kits

pub go-requires-clause-room : goal.go-requires-clause-room
go-requires-clause-room g c κs within =
    let here : held_at c.args.worker c.self.inside.pieces.items ≡ Some c.in-Some.number = sym (c.in-Some.ensures.held ∙ ap (held_at c.args.worker) c.deref.ensures.value) in
    let less : c.in-Some.number < length c.self.inside.pieces.items = held_within c.args.worker c.in-Some.number c.self.inside.pieces.items here in
    let few : layers_of c.index_mut.result.now ≤ layers_in c.self.inside.pieces.items = piece_layers c.self.inside.pieces.items c.in-Some.number c.index_mut.result.now less c.index_mut.ensures.value in
    omega (arith, few, c.self.invariant)

pub invariant_of-self : goal.invariant_of-self
invariant_of-self g c =
    let here : held_at c.args.worker c.self.inside.pieces.items ≡ Some c.in-Some.number = sym (c.in-Some.ensures.held ∙ ap (held_at c.args.worker) c.deref.ensures.value) in
    let less : c.in-Some.number < length c.self.inside.pieces.items = held_within c.args.worker c.in-Some.number c.self.inside.pieces.items here in
    let same : length c.go.new.pool.kits + layers_in (slice_set c.self.inside.pieces.items c.in-Some.number c.go.new.self) ≡ length c.self.inside.pool.kits + layers_in c.self.inside.pieces.items =
    moves_keep c.self.inside.pieces.items c.in-Some.number c.index_mut.result.now c.go.new.self c.self.inside.pool c.go.new.pool (map book_step c.self.inside.history.items) less c.index_mut.ensures.value c.go.ensures.total c.go.ensures.kits in
    omega (arith, same, c.go.ensures.total, c.self.invariant)

pub returns-in-None-clause-refused : goal.returns-in-None-clause-refused
returns-in-None-clause-refused g c =
    let none : held_at c.args.worker c.self.inside.pieces.items ≡ None = sym (c.in-None.ensures.held ∙ ap (held_at c.args.worker) c.deref.ensures.value) in
    subst (λ (s : PlainStrands). RefusedAs (takes_memory c.args.step) (changed NotThere c.args.worker (moved (lent c.args.setting) c.args.step (length s.kits)) [] s.pieces s.history) NotThere) c.self.view_is
    (none_refused (takes_memory c.args.step) c.args.worker c.self.inside.pieces.items NotThere (moved (lent c.args.setting) c.args.step (length c.self.inside.pool.kits)) (map book_step c.self.inside.history.items) none)

pub returns-in-Some-clause-taken : goal.returns-in-Some-clause-taken
returns-in-Some-clause-taken g c =
    let here : held_at c.args.worker c.self.inside.pieces.items ≡ Some c.in-Some.number = sym (c.in-Some.ensures.held ∙ ap (held_at c.args.worker) c.deref.ensures.value) in
    subst (λ (s : PlainStrands). OnOk c.go.result (changed NotThere c.args.worker (moved (lent c.args.setting) c.args.step (length s.kits)) [] s.pieces s.history
    ≡ Ok (record { pieces = slice_set c.self.inside.pieces.items c.in-Some.number c.go.new.self; kits = length c.go.new.pool.kits; history = map book_step c.self.inside.history.items }))) c.self.view_is
    (moves_taken c.go.result c.args.worker c.in-Some.number c.self.inside.pieces.items (moved (lent c.args.setting) c.args.step) c.index_mut.result.now c.go.new.self here c.index_mut.ensures.value
    NotThere (length c.self.inside.pool.kits) (length c.go.new.pool.kits) (map book_step c.self.inside.history.items) c.go.ensures.taken)

pub returns-in-Some-clause-refused : goal.returns-in-Some-clause-refused
returns-in-Some-clause-refused g c =
    let here : held_at c.args.worker c.self.inside.pieces.items ≡ Some c.in-Some.number = sym (c.in-Some.ensures.held ∙ ap (held_at c.args.worker) c.deref.ensures.value) in
    subst (λ (s : PlainStrands). IfErr c.go.result (RefusedAs (takes_memory c.args.step) (changed NotThere c.args.worker (moved (lent c.args.setting) c.args.step (length s.kits)) [] s.pieces s.history))) c.self.view_is
    (moves_refused c.go.result c.args.worker c.in-Some.number c.self.inside.pieces.items (moved (lent c.args.setting) c.args.step) c.index_mut.result.now c.go.new.self here c.index_mut.ensures.value
    (takes_memory c.args.step) NotThere (length c.self.inside.pool.kits) (map book_step c.self.inside.history.items) c.go.ensures.refused)

pub returns-in-Some-clause-left : goal.returns-in-Some-clause-left
returns-in-Some-clause-left g c =
    let here : held_at c.args.worker c.self.inside.pieces.items ≡ Some c.in-Some.number = sym (c.in-Some.ensures.held ∙ ap (held_at c.args.worker) c.deref.ensures.value) in
    let less : c.in-Some.number < length c.self.inside.pieces.items = held_within c.args.worker c.in-Some.number c.self.inside.pieces.items here in
    subst (λ (s : PlainStrands). IfErr c.go.result (λ e. LeavesMoved c.args.step e s
    (record { pieces = slice_set c.self.inside.pieces.items c.in-Some.number c.go.new.self; kits = c.go.new.pool.kits; total = c.go.new.pool.total; history = map book_step c.self.inside.history.items }))) c.self.view_is
    (moves_left c.self.inside.pieces.items c.in-Some.number c.index_mut.result.now c.go.new.self c.self.inside.pool c.go.new.pool (map book_step c.self.inside.history.items) less c.index_mut.ensures.value c.go.ensures.total
    c.go.result c.args.step c.go.ensures.left c.go.ensures.pool_left)

pub returns-in-Some-clause-fit : goal.returns-in-Some-clause-fit
returns-in-Some-clause-fit g c =
    let here : held_at c.args.worker c.self.inside.pieces.items ≡ Some c.in-Some.number = sym (c.in-Some.ensures.held ∙ ap (held_at c.args.worker) c.deref.ensures.value) in
    let less : c.in-Some.number < length c.self.inside.pieces.items = held_within c.args.worker c.in-Some.number c.self.inside.pieces.items here in
    let all : AreFit c.args.setting.program.now.kinds (record { pieces = c.self.inside.pieces.items; kits = c.self.inside.pool.kits; total = c.self.inside.pool.total; history = map book_step c.self.inside.history.items }) =
    subst (AreFit c.args.setting.program.now.kinds) (sym c.self.view_is) c.requires.fit in
    let fit : IsFit c.args.setting.program.now.kinds c.index_mut.result.now =
    piece_fit c.args.setting.program.now.kinds c.args.self.now c.self.inside.pieces.items c.in-Some.number c.index_mut.result.now (sym (ap (λ (s : PlainStrands). s.pieces) c.self.view_is)) less c.index_mut.ensures.value c.requires.fit in
    record {
      pieces = set_fit c.args.setting.program.now.kinds _ c.in-Some.number c.go.new.self all (c.go.ensures.kinds ∙ fit);
      kits = c.go.ensures.free;
    }

pub returns-in-Some-clause-kits : goal.returns-in-Some-clause-kits
returns-in-Some-clause-kits g c =
    let here : held_at c.args.worker c.self.inside.pieces.items ≡ Some c.in-Some.number = sym (c.in-Some.ensures.held ∙ ap (held_at c.args.worker) c.deref.ensures.value) in
    let less : c.in-Some.number < length c.self.inside.pieces.items = held_within c.args.worker c.in-Some.number c.self.inside.pieces.items here in
    let same : length c.go.new.pool.kits + layers_in (slice_set c.self.inside.pieces.items c.in-Some.number c.go.new.self) ≡ length c.self.inside.pool.kits + layers_in c.self.inside.pieces.items =
    moves_keep c.self.inside.pieces.items c.in-Some.number c.index_mut.result.now c.go.new.self c.self.inside.pool c.go.new.pool (map book_step c.self.inside.history.items) less c.index_mut.ensures.value c.go.ensures.total c.go.ensures.kits in
    same ∙ ap kits_in c.self.view_is
