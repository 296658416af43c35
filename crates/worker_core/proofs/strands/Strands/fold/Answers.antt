use Rattle.std.proofs.Common.{rules, arith, ◌≡◌, ◌+◌, ◌<◌, true, false, Some, Ok, OnOk, IfErr, length, map, sym, ap, subst, ◌∙◌}
use Rattle.numbered_runs.specs.Named.{book_step}
use Rattle.stepped_runs.specs.Runs.{is_idle}
use Rattle.numbered_runs.specs.declared.refusal.Refusal.TheVariants.{NotThere, Busy}
use Rattle.worker_core.specs.Moves.{RefusedAs}
use Rattle.worker_core.specs.Folds.{MayFoldAt, IsFoldedAt}
use Rattle.worker_core.specs.Strands.{PlainStrands, run_of, held_at, neighbour_at}
use Rattle.worker_core.proofs.Neighbours.{neighbour_within}
use Rattle.worker_core.proofs.Merging.{folding, busy_refused, idle_there, no_neighbour_refused, may_there, not_foldable_refused, fold_taken, fold_refused}
use Rattle.worker_core.proofs.strands.Strands.fold.Goals as goal

pub returns-then-is_some-clause-refused : goal.returns-then-is_some-clause-refused
returns-then-is_some-clause-refused g c =
    subst (λ (s : PlainStrands). RefusedAs true (folding c.args.worker c.args.place.now s) Busy) c.self.view_is
    (busy_refused c.args.worker c.args.place.now (record { pieces = c.self.inside.pieces.items; kits = c.self.inside.pool.kits; total = c.self.inside.pool.total; history = map book_step c.self.inside.history.items }) c.held_at.result (c.held_at.ensures.held ∙ ap (held_at c.args.worker) c.deref.ensures.value) (sym c.is_some.ensures ∙ c.if-is_some.true))

pub returns-in-None-clause-refused : goal.returns-in-None-clause-refused
returns-in-None-clause-refused g c =
    let idle : is_idle c.args.worker c.self.inside.pieces.items ≡ true = idle_there c.args.worker c.self.inside.pieces.items c.held_at.result (c.held_at.ensures.held ∙ ap (held_at c.args.worker) c.deref.ensures.value) (sym c.is_some.ensures ∙ c.if-is_some.false) in
    subst (λ (s : PlainStrands). RefusedAs true (folding c.args.worker c.args.place.now s) NotThere) c.self.view_is
    (no_neighbour_refused c.args.worker c.args.place.now (record { pieces = c.self.inside.pieces.items; kits = c.self.inside.pool.kits; total = c.self.inside.pool.total; history = map book_step c.self.inside.history.items }) idle (sym (c.in-None.ensures.neighbour ∙ ap (neighbour_at c.args.place.now) c.deref-2.ensures.value)))

pub index-requires : goal.index-requires
index-requires g c =
    let found : neighbour_at c.args.place.now c.self.inside.pieces.items ≡ Some c.in-Some.number = sym (c.in-Some.ensures.neighbour ∙ ap (neighbour_at c.args.place.now) c.deref-2.ensures.value) in
    let less = neighbour_within c.args.place.now c.in-Some.number c.self.inside.pieces.items found in
    omega (arith, less, c.self.inside.pieces.ok.0)

pub overflow_add-number : goal.overflow_add-number
overflow_add-number g c =
    let found : neighbour_at c.args.place.now c.self.inside.pieces.items ≡ Some c.in-Some.number = sym (c.in-Some.ensures.neighbour ∙ ap (neighbour_at c.args.place.now) c.deref-2.ensures.value) in
    let less = neighbour_within c.args.place.now c.in-Some.number c.self.inside.pieces.items found in
    omega (arith, less, c.self.inside.pieces.ok.0, c.self.inside.pieces.small)

pub index-requires-in-Some : goal.index-requires-in-Some
index-requires-in-Some g c =
    let found : neighbour_at c.args.place.now c.self.inside.pieces.items ≡ Some c.in-Some.number = sym (c.in-Some.ensures.neighbour ∙ ap (neighbour_at c.args.place.now) c.deref-2.ensures.value) in
    let less = neighbour_within c.args.place.now c.in-Some.number c.self.inside.pieces.items found in
    omega (arith, less, c.self.inside.pieces.ok.0)

pub returns-then-not-may_fold-clause-refused : goal.returns-then-not-may_fold-clause-refused
returns-then-not-may_fold-clause-refused g c =
    let found : neighbour_at c.args.place.now c.self.inside.pieces.items ≡ Some c.in-Some.number = sym (c.in-Some.ensures.neighbour ∙ ap (neighbour_at c.args.place.now) c.deref-2.ensures.value) in
    let idle : is_idle c.args.worker c.self.inside.pieces.items ≡ true = idle_there c.args.worker c.self.inside.pieces.items c.held_at.result (c.held_at.ensures.held ∙ ap (held_at c.args.worker) c.deref.ensures.value) (sym c.is_some.ensures ∙ c.if-is_some.false) in
    let no : c.may_fold.result ≡ false = search rules in
    subst (λ (s : PlainStrands). RefusedAs true (folding c.args.worker c.args.place.now s) NotThere) c.self.view_is
    (not_foldable_refused c.args.worker c.args.place.now (record { pieces = c.self.inside.pieces.items; kits = c.self.inside.pool.kits; total = c.self.inside.pool.total; history = map book_step c.self.inside.history.items }) idle c.in-Some.number found c.index.result.now
    (may_there c.args.worker c.args.place.now (record { pieces = c.self.inside.pieces.items; kits = c.self.inside.pool.kits; total = c.self.inside.pool.total; history = map book_step c.self.inside.history.items }) idle c.in-Some.number found c.index.result.now c.index-in-Some.result.now c.may_fold.result c.index.ensures c.index-in-Some.ensures c.may_fold.ensures.may c.index.result.now ∙ no))

pub fold_at-requires-clause-number : goal.fold_at-requires-clause-number
fold_at-requires-clause-number g c κs send =
    let found : neighbour_at c.args.place.now c.self.inside.pieces.items ≡ Some c.in-Some.number = sym (c.in-Some.ensures.neighbour ∙ ap (neighbour_at c.args.place.now) c.deref-2.ensures.value) in
    let less = neighbour_within c.args.place.now c.in-Some.number c.self.inside.pieces.items found in
    subst (λ (s : PlainStrands). c.in-Some.number + 1 < length s.pieces) c.self.view_is (omega (arith, less))

pub fold_at-requires-clause-may : goal.fold_at-requires-clause-may
fold_at-requires-clause-may g c κs within =
    let found : neighbour_at c.args.place.now c.self.inside.pieces.items ≡ Some c.in-Some.number = sym (c.in-Some.ensures.neighbour ∙ ap (neighbour_at c.args.place.now) c.deref-2.ensures.value) in
    let idle : is_idle c.args.worker c.self.inside.pieces.items ≡ true = idle_there c.args.worker c.self.inside.pieces.items c.held_at.result (c.held_at.ensures.held ∙ ap (held_at c.args.worker) c.deref.ensures.value) (sym c.is_some.ensures ∙ c.if-is_some.false) in
    let yes : c.may_fold.result ≡ true = search rules in
    subst (λ (s : PlainStrands). MayFoldAt c.in-Some.number s.pieces) c.self.view_is
    (λ d. may_there c.args.worker c.args.place.now (record { pieces = c.self.inside.pieces.items; kits = c.self.inside.pool.kits; total = c.self.inside.pool.total; history = map book_step c.self.inside.history.items }) idle c.in-Some.number found c.index.result.now c.index-in-Some.result.now c.may_fold.result c.index.ensures c.index-in-Some.ensures c.may_fold.ensures.may d ∙ yes)

pub returns-else-not-may_fold-clause-taken : goal.returns-else-not-may_fold-clause-taken
returns-else-not-may_fold-clause-taken g c =
    let found : neighbour_at c.args.place.now c.self.inside.pieces.items ≡ Some c.in-Some.number = sym (c.in-Some.ensures.neighbour ∙ ap (neighbour_at c.args.place.now) c.deref-2.ensures.value) in
    let idle : is_idle c.args.worker c.self.inside.pieces.items ≡ true = idle_there c.args.worker c.self.inside.pieces.items c.held_at.result (c.held_at.ensures.held ∙ ap (held_at c.args.worker) c.deref.ensures.value) (sym c.is_some.ensures ∙ c.if-is_some.false) in
    let yes : c.may_fold.result ≡ true = search rules in
    subst (λ (s : PlainStrands). OnOk c.fold_at.result (folding c.args.worker c.args.place.now s ≡ Ok (run_of c.fold_at.new.self))) c.self.view_is
    (fold_taken c.args.worker c.args.place.now (record { pieces = c.self.inside.pieces.items; kits = c.self.inside.pool.kits; total = c.self.inside.pool.total; history = map book_step c.self.inside.history.items }) idle c.in-Some.number found c.fold_at.result c.fold_at.new.self
    (λ d. may_there c.args.worker c.args.place.now (record { pieces = c.self.inside.pieces.items; kits = c.self.inside.pool.kits; total = c.self.inside.pool.total; history = map book_step c.self.inside.history.items }) idle c.in-Some.number found c.index.result.now c.index-in-Some.result.now c.may_fold.result c.index.ensures c.index-in-Some.ensures c.may_fold.ensures.may d ∙ yes)
    (subst (λ (s : PlainStrands). OnOk c.fold_at.result (IsFoldedAt c.args.worker c.in-Some.number (run_of s) (run_of c.fold_at.new.self))) (sym c.self.view_is) c.fold_at.ensures.folded))

pub returns-else-not-may_fold-clause-refused : goal.returns-else-not-may_fold-clause-refused
returns-else-not-may_fold-clause-refused g c =
    let found : neighbour_at c.args.place.now c.self.inside.pieces.items ≡ Some c.in-Some.number = sym (c.in-Some.ensures.neighbour ∙ ap (neighbour_at c.args.place.now) c.deref-2.ensures.value) in
    let idle : is_idle c.args.worker c.self.inside.pieces.items ≡ true = idle_there c.args.worker c.self.inside.pieces.items c.held_at.result (c.held_at.ensures.held ∙ ap (held_at c.args.worker) c.deref.ensures.value) (sym c.is_some.ensures ∙ c.if-is_some.false) in
    let yes : c.may_fold.result ≡ true = search rules in
    subst (λ (s : PlainStrands). IfErr c.fold_at.result (RefusedAs true (folding c.args.worker c.args.place.now s))) c.self.view_is
    (fold_refused c.args.worker c.args.place.now (record { pieces = c.self.inside.pieces.items; kits = c.self.inside.pool.kits; total = c.self.inside.pool.total; history = map book_step c.self.inside.history.items }) idle c.in-Some.number found c.fold_at.result
    (λ d. may_there c.args.worker c.args.place.now (record { pieces = c.self.inside.pieces.items; kits = c.self.inside.pool.kits; total = c.self.inside.pool.total; history = map book_step c.self.inside.history.items }) idle c.in-Some.number found c.index.result.now c.index-in-Some.result.now c.may_fold.result c.index.ensures c.index-in-Some.ensures c.may_fold.ensures.may d ∙ yes)
    c.fold_at.ensures.cause)
