use Rattle.std.proofs.Common.{◌≡◌, ℕ, suc, List, Ok, [], ◌∷◌, refl, ap, subst, ◌∙◌}
use Rattle.std.specs.Prelude.{reverse}
use Rattle.input_tables.specs.Edited.{Edited}
use Rattle.record_theory.specs.Record.{PlainRecord}
use Rattle.meaning.specs.Strands.{Split}
use Rattle.activations.specs.Given.{setting_over}
use Rattle.positions.specs.Moves.{stolen}
use Rattle.numbered_runs.specs.Named.{named_state}
use Rattle.stepped_runs.specs.Pieces.{PlainPiece, place_of, stolen_of}
use Rattle.worker_core.proofs.Thefts.{robs}
use Rattle.worker_core.proofs.piece.Piece.rob.Goals as goal

pub returns-in-Ok-stolen-clause-robbed : goal.returns-in-Ok-stolen-clause-robbed
returns-in-Ok-stolen-clause-robbed g c =
    subst (λ (p : PlainPiece). (tables : Edited) (records : List PlainRecord) (kits : ℕ) → stolen_of (setting_over c.args.program.now tables records) c.args.thief (suc kits) p p.deque
    ≡ Ok (record { pieces = record { strand = c.self.inside.strand; deque = reverse c.take_oldest.new.tasks.items; state = named_state c.self.inside.state } ∷ c.held.result ∷ []; kits = kits; noted = Split (place_of p) c.in-Ok.place.items c.args.thief ∷ [] })) c.self.view_is
    (λ tables records kits. robs (setting_over c.args.program.now tables records) c.args.thief kits _ c.self.inside.deque.items c.take_oldest.new.tasks.items c.in-Some.task c.in-Ok-stolen.strand c.held.result c.in-Ok.place.items
    c.in-Some.ensures.items refl c.held.ensures.held (c.in-Ok-stolen.ensures.stolen ∙ ap (λ ks. stolen c.args.program.now.codes ks c.in-Some.task) c.requires.kinds) c.in-Ok.ensures.place)
