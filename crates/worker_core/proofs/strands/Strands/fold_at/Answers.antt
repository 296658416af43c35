use Rattle.std.proofs.Common.{All, arith, ◌≡◌, ◌+◌, ◌<◌, ◌∷◌, [], ◌++◌, IsOk, if◌then◌else◌, insert, slice_set, length, map, sym, ap, subst, ◌∙◌}
use Rattle.std.proofs.lemmas.List.{length_push, map_push}
use Rattle.meaning.specs.Strands.{Fold}
use Rattle.numbered_runs.specs.Named.{book_step}
use Rattle.numbered_runs.specs.declared.step.BookStep.TheVariants as book
use Rattle.worker_core.specs.Folds.{KeepsProducts, MayFoldAt, IsFoldedAt}
use Rattle.stepped_runs.specs.Layered.{HasOneLayer}
use Rattle.worker_core.specs.Strands.{PlainStrands, run_of, kits_in, layers_in, AreFit}
use Rattle.worker_core.proofs.Folded.{folds_at, folds_fit, home_fits, halves_keep, halves_fit, folds_layers, halves_layers, some_layers, right_bare}
use Rattle.worker_core.proofs.strands.Strands.fold_at.Goals as goal

pub fold-requires-clause-one_layer : goal.fold-requires-clause-one_layer
fold-requires-clause-one_layer g c κs ends =
    let within : c.args.number + 1 < length c.self.inside.pieces.items = subst (λ (s : PlainStrands). c.args.number + 1 < length s.pieces) (sym c.self.view_is) c.requires.number in
    right_bare c.args.worker c.args.number c.self.inside.pieces.items c.remove-taken.new.self.items c.index_mut.result.now c.remove-taken.result within c.remove-taken.ensures.items c.index_mut.ensures.value c.remove-taken.ensures.value (subst (λ (s : PlainStrands). MayFoldAt c.args.number s.pieces) (sym c.self.view_is) c.requires.may)
    (subst (λ (s : PlainStrands). All HasOneLayer s.pieces) (sym c.self.view_is) c.requires.layered)

pub returns-in-Ok-fold-clause-folded : goal.returns-in-Ok-fold-clause-folded
returns-in-Ok-fold-clause-folded g c =
    let within : c.args.number + 1 < length c.self.inside.pieces.items = subst (λ (s : PlainStrands). c.args.number + 1 < length s.pieces) (sym c.self.view_is) c.requires.number in
    let more = ap length c.give_back.ensures.put ∙ length_push c.self.inside.pool.kits c.in-Ok-fold.kit in
    let noted : map book_step c.push_reserved.new.self.items ≡ map book_step c.self.inside.history.items ++ Fold c.in-Ok.left.items c.in-Ok-place.right.items c.args.worker ∷ [] =
    ap (map book_step) c.push_reserved.ensures.items ∙ map_push book_step c.reserve.new.self.items (book.Fold c.in-Ok.left c.in-Ok-place.right c.args.worker)
    ∙ ap (λ hs. map book_step hs ++ Fold c.in-Ok.left.items c.in-Ok-place.right.items c.args.worker ∷ []) c.reserve.ensures.items in
    subst (λ (s : PlainStrands). IsFoldedAt c.args.worker c.args.number (run_of s)
    (record { pieces = slice_set c.remove-taken.new.self.items c.args.number c.fold.new.self; kits = length c.give_back.new.pool.kits; history = map book_step c.push_reserved.new.self.items })) c.self.view_is
    (folds_at c.args.worker c.args.number c.self.inside.pieces.items c.remove-taken.new.self.items c.index_mut.result.now c.remove-taken.result within c.remove-taken.ensures.items c.index_mut.ensures.value c.remove-taken.ensures.value
    c.fold.new.self c.in-Ok-fold.ensures.folded (length c.self.inside.pool.kits) (length c.give_back.new.pool.kits) (map book_step c.self.inside.history.items) (map book_step c.push_reserved.new.self.items) c.index.result.now c.index-2.result.now c.in-Ok.left.items c.in-Ok-place.right.items
    more noted c.in-Ok.ensures.place c.index.ensures c.in-Ok-place.ensures.place c.index-2.ensures)

pub returns-in-Ok-fold-clause-fit : goal.returns-in-Ok-fold-clause-fit
returns-in-Ok-fold-clause-fit g c =
    let within : c.args.number + 1 < length c.self.inside.pieces.items = subst (λ (s : PlainStrands). c.args.number + 1 < length s.pieces) (sym c.self.view_is) c.requires.number in
    let fit = subst (AreFit c.args.program.now.kinds) (sym c.self.view_is) c.requires.fit in
    record {
      pieces = folds_fit c.args.worker c.args.number c.self.inside.pieces.items c.remove-taken.new.self.items c.index_mut.result.now c.remove-taken.result within c.remove-taken.ensures.items c.index_mut.ensures.value c.remove-taken.ensures.value
          c.fold.new.self c.in-Ok-fold.ensures.folded c.args.program.now.kinds fit.pieces;
      kits = home_fits c.args.worker c.args.number c.self.inside.pieces.items c.remove-taken.new.self.items c.index_mut.result.now c.remove-taken.result within c.remove-taken.ensures.items c.index_mut.ensures.value c.remove-taken.ensures.value
          c.args.program.now.kinds c.self.inside.pool.kits c.give_back.new.pool.kits c.in-Ok-fold.kit fit.pieces fit.kits c.give_back.ensures.put c.in-Ok-fold.ensures.kit;
    }

pub returns-in-Err-clause-kept : goal.returns-in-Err-clause-kept
returns-in-Err-clause-kept g c =
    let within : c.args.number + 1 < length c.self.inside.pieces.items = subst (λ (s : PlainStrands). c.args.number + 1 < length s.pieces) (sym c.self.view_is) c.requires.number in
    let room : IsOk c.insert.result = c.insert.ensures.succeeds (omega (arith, c.remove-taken.ensures.len, c.remove-taken.ensures.capacity, c.self.inside.pieces.ok.1)) in
    let back : c.insert.new.self.items ≡ insert (slice_set c.remove-taken.new.self.items c.args.number c.fold.new.self) (c.args.number + 1) c.in-Err.taken =
    c.insert.ensures.items ∙ ap (λ b. if b then insert (slice_set c.remove-taken.new.self.items c.args.number c.fold.new.self) (c.args.number + 1) c.in-Err.taken else slice_set c.remove-taken.new.self.items c.args.number c.fold.new.self) room in
    let may = subst (λ (s : PlainStrands). MayFoldAt c.args.number s.pieces) (sym c.self.view_is) c.requires.may in
    subst (λ (s : PlainStrands). KeepsProducts s (record { pieces = c.insert.new.self.items; kits = c.self.inside.pool.kits; total = c.self.inside.pool.total; history = map book_step c.reserve.new.self.items })) c.self.view_is
    (halves_keep c.args.worker c.args.number c.self.inside.pieces.items c.remove-taken.new.self.items c.index_mut.result.now c.remove-taken.result within c.remove-taken.ensures.items c.index_mut.ensures.value c.remove-taken.ensures.value
    c.fold.new.self c.in-Err.taken c.insert.new.self.items back c.in-Err.ensures.half c.self.inside.pool.kits c.self.inside.pool.total (map book_step c.self.inside.history.items) (map book_step c.reserve.new.self.items)
    (ap (map book_step) c.reserve.ensures.items) may c.in-Err.ensures.views)

pub returns-in-Err-clause-fit : goal.returns-in-Err-clause-fit
returns-in-Err-clause-fit g c =
    let within : c.args.number + 1 < length c.self.inside.pieces.items = subst (λ (s : PlainStrands). c.args.number + 1 < length s.pieces) (sym c.self.view_is) c.requires.number in
    let room : IsOk c.insert.result = c.insert.ensures.succeeds (omega (arith, c.remove-taken.ensures.len, c.remove-taken.ensures.capacity, c.self.inside.pieces.ok.1)) in
    let back : c.insert.new.self.items ≡ insert (slice_set c.remove-taken.new.self.items c.args.number c.fold.new.self) (c.args.number + 1) c.in-Err.taken =
    c.insert.ensures.items ∙ ap (λ b. if b then insert (slice_set c.remove-taken.new.self.items c.args.number c.fold.new.self) (c.args.number + 1) c.in-Err.taken else slice_set c.remove-taken.new.self.items c.args.number c.fold.new.self) room in
    let fit = subst (AreFit c.args.program.now.kinds) (sym c.self.view_is) c.requires.fit in
    record {
      pieces = halves_fit c.args.worker c.args.number c.self.inside.pieces.items c.remove-taken.new.self.items c.index_mut.result.now c.remove-taken.result within c.remove-taken.ensures.items c.index_mut.ensures.value c.remove-taken.ensures.value
          c.fold.new.self c.in-Err.taken c.insert.new.self.items back c.in-Err.ensures.half c.args.program.now.kinds fit.pieces;
      kits = fit.kits;
    }

pub give_back-requires : goal.give_back-requires
give_back-requires g c =
    let within : c.args.number + 1 < length c.self.inside.pieces.items = subst (λ (s : PlainStrands). c.args.number + 1 < length s.pieces) (sym c.self.view_is) c.requires.number in
    let some = some_layers c.args.worker c.args.number c.self.inside.pieces.items c.remove-taken.new.self.items c.index_mut.result.now c.remove-taken.result within c.remove-taken.ensures.items c.index_mut.ensures.value c.remove-taken.ensures.value in
    omega (arith, some, c.self.invariant)

pub invariant_of-self-in-Ok-fold : goal.invariant_of-self-in-Ok-fold
invariant_of-self-in-Ok-fold g c =
    let within : c.args.number + 1 < length c.self.inside.pieces.items = subst (λ (s : PlainStrands). c.args.number + 1 < length s.pieces) (sym c.self.view_is) c.requires.number in
    let bare = right_bare c.args.worker c.args.number c.self.inside.pieces.items c.remove-taken.new.self.items c.index_mut.result.now c.remove-taken.result within c.remove-taken.ensures.items c.index_mut.ensures.value c.remove-taken.ensures.value (subst (λ (s : PlainStrands). MayFoldAt c.args.number s.pieces) (sym c.self.view_is) c.requires.may)
    (subst (λ (s : PlainStrands). All HasOneLayer s.pieces) (sym c.self.view_is) c.requires.layered) in
    let fewer = folds_layers c.args.worker c.args.number c.self.inside.pieces.items c.remove-taken.new.self.items c.index_mut.result.now c.remove-taken.result within c.remove-taken.ensures.items c.index_mut.ensures.value c.remove-taken.ensures.value c.fold.new.self c.in-Ok-fold.ensures.folded bare in
    let more = ap length c.give_back.ensures.put ∙ length_push c.self.inside.pool.kits c.in-Ok-fold.kit in
    omega (arith, fewer, more, c.give_back.ensures.total, c.self.invariant)

pub returns-in-Ok-fold-clause-kits : goal.returns-in-Ok-fold-clause-kits
returns-in-Ok-fold-clause-kits g c =
    let within : c.args.number + 1 < length c.self.inside.pieces.items = subst (λ (s : PlainStrands). c.args.number + 1 < length s.pieces) (sym c.self.view_is) c.requires.number in
    let bare = right_bare c.args.worker c.args.number c.self.inside.pieces.items c.remove-taken.new.self.items c.index_mut.result.now c.remove-taken.result within c.remove-taken.ensures.items c.index_mut.ensures.value c.remove-taken.ensures.value (subst (λ (s : PlainStrands). MayFoldAt c.args.number s.pieces) (sym c.self.view_is) c.requires.may)
    (subst (λ (s : PlainStrands). All HasOneLayer s.pieces) (sym c.self.view_is) c.requires.layered) in
    let fewer = folds_layers c.args.worker c.args.number c.self.inside.pieces.items c.remove-taken.new.self.items c.index_mut.result.now c.remove-taken.result within c.remove-taken.ensures.items c.index_mut.ensures.value c.remove-taken.ensures.value c.fold.new.self c.in-Ok-fold.ensures.folded bare in
    let more = ap length c.give_back.ensures.put ∙ length_push c.self.inside.pool.kits c.in-Ok-fold.kit in
    let kept : length c.give_back.new.pool.kits + layers_in (slice_set c.remove-taken.new.self.items c.args.number c.fold.new.self) ≡ length c.self.inside.pool.kits + layers_in c.self.inside.pieces.items = omega (arith, fewer, more) in
    kept ∙ ap kits_in c.self.view_is

pub invariant_of-self-in-Err-fold : goal.invariant_of-self-in-Err-fold
invariant_of-self-in-Err-fold g c =
    let within : c.args.number + 1 < length c.self.inside.pieces.items = subst (λ (s : PlainStrands). c.args.number + 1 < length s.pieces) (sym c.self.view_is) c.requires.number in
    let room : IsOk c.insert.result = c.insert.ensures.succeeds (omega (arith, c.remove-taken.ensures.len, c.remove-taken.ensures.capacity, c.self.inside.pieces.ok.1)) in
    let back : c.insert.new.self.items ≡ insert (slice_set c.remove-taken.new.self.items c.args.number c.fold.new.self) (c.args.number + 1) c.in-Err.taken =
    c.insert.ensures.items ∙ ap (λ b. if b then insert (slice_set c.remove-taken.new.self.items c.args.number c.fold.new.self) (c.args.number + 1) c.in-Err.taken else slice_set c.remove-taken.new.self.items c.args.number c.fold.new.self) room in
    let same = halves_layers c.args.worker c.args.number c.self.inside.pieces.items c.remove-taken.new.self.items c.index_mut.result.now c.remove-taken.result within c.remove-taken.ensures.items c.index_mut.ensures.value c.remove-taken.ensures.value c.fold.new.self c.in-Err.taken c.insert.new.self.items back c.in-Err.ensures.half in
    omega (arith, same, c.self.invariant)

pub returns-in-Err-clause-kits : goal.returns-in-Err-clause-kits
returns-in-Err-clause-kits g c =
    let within : c.args.number + 1 < length c.self.inside.pieces.items = subst (λ (s : PlainStrands). c.args.number + 1 < length s.pieces) (sym c.self.view_is) c.requires.number in
    let room : IsOk c.insert.result = c.insert.ensures.succeeds (omega (arith, c.remove-taken.ensures.len, c.remove-taken.ensures.capacity, c.self.inside.pieces.ok.1)) in
    let back : c.insert.new.self.items ≡ insert (slice_set c.remove-taken.new.self.items c.args.number c.fold.new.self) (c.args.number + 1) c.in-Err.taken =
    c.insert.ensures.items ∙ ap (λ b. if b then insert (slice_set c.remove-taken.new.self.items c.args.number c.fold.new.self) (c.args.number + 1) c.in-Err.taken else slice_set c.remove-taken.new.self.items c.args.number c.fold.new.self) room in
    let same = halves_layers c.args.worker c.args.number c.self.inside.pieces.items c.remove-taken.new.self.items c.index_mut.result.now c.remove-taken.result within c.remove-taken.ensures.items c.index_mut.ensures.value c.remove-taken.ensures.value c.fold.new.self c.in-Err.taken c.insert.new.self.items back c.in-Err.ensures.half in
    ap (λ n. length c.self.inside.pool.kits + n) same ∙ ap kits_in c.self.view_is
