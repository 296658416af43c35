use Rattle.std.proofs.Common.{◌<◌, rules, arith, add-one, ◌≡◌, suc, ◌+◌, All, [], ◌∷◌, ◌++◌, length, map, get_or, sym, ap, subst, ◌∙◌}
use Rattle.std.specs.Prelude.{slice_set as set}
use Rattle.std.specs.List.{insert}
use Rattle.std.proofs.lemmas.List.{get_or_default, map_push}
use Rattle.meaning.specs.Strands.{Split}
use Rattle.activations.specs.Given.{setting_over}
use Rattle.numbered_runs.specs.Named.{book_step}
use Rattle.stepped_runs.specs.Pieces.{place_of}
use Rattle.worker_core.specs.Moves.{IsFit}
use Rattle.worker_core.specs.Strands.{PlainStrands, kits_in, layers_in}
use Rattle.worker_core.proofs.Thefts.{parted_taken, parted_fit, parted_layers}
use Rattle.worker_core.proofs.strands.Strands.split.Goals as goal

pub returns-in-Ok-rob-clause-taken : goal.returns-in-Ok-rob-clause-taken
returns-in-Ok-rob-clause-taken g c tables records =
    let pieces : c.self.inside.pieces.items ≡ c.args.self.now.pieces = ap (λ (s : PlainStrands). s.pieces) c.self.view_is in
    let old : c.reserve.new.self.items ≡ c.args.self.now.pieces = c.reserve.ensures.items ∙ pieces in
    let at : c.index_mut.result.now ≡ get_or c.args.self.now.pieces c.args.number c.index_mut.result.now =
    c.index_mut.ensures.value ∙ ap (λ xs. get_or xs c.args.number c.index_mut.result.now) old in
    let seen : c.index.result.now ≡ get_or c.args.self.now.pieces c.args.number c.index.result.now = c.index.ensures ∙ ap (λ xs. get_or xs c.args.number c.index.result.now) pieces in
    let same : c.index.result.now ≡ c.index_mut.result.now =
    seen ∙ get_or_default c.args.self.now.pieces c.args.number c.index.result.now c.index_mut.result.now c.requires.number ∙ sym at in
    let put : c.insert.new.self.items ≡ insert (set c.reserve.new.self.items c.args.number c.rob.new.self) (c.args.number + 1) c.in-Ok-rob.piece = search rules in
    let noted : map book_step c.push_reserved.new.self.items ≡ map book_step c.self.inside.history.items ++ Split c.in-Ok.place.items c.in-Ok-rob.new.items c.args.thief ∷ [] =
    ap (map book_step) c.push_reserved.ensures.items ∙ map_push book_step c.reserve-else-is_err.new.self.items _ ∙ ap (λ h. map book_step h ++ Split c.in-Ok.place.items c.in-Ok-rob.new.items c.args.thief ∷ []) c.reserve-else-is_err.ensures.items in
    parted_taken c.args.program.now.kinds c.args.number c.args.self.now c.index_mut.result.now c.rob.new.self c.in-Ok-rob.piece c.requires.number at (setting_over c.args.program.now tables records) c.args.thief c.in-Ok-rob.new.items
    (record { pieces = c.insert.new.self.items; kits = c.self.inside.pool.kits; total = c.self.inside.pool.total; history = map book_step c.push_reserved.new.self.items })
    (c.in-Ok-rob.ensures.robbed tables records)
    (put ∙ ap (λ xs. insert (set xs c.args.number c.rob.new.self) (c.args.number + 1) c.in-Ok-rob.piece) old ∙ ap (λ n. insert (set c.args.self.now.pieces c.args.number c.rob.new.self) n c.in-Ok-rob.piece) (add-one c.args.number))
    (noted ∙ ap (λ h. h ++ Split c.in-Ok.place.items c.in-Ok-rob.new.items c.args.thief ∷ []) (ap (λ (s : PlainStrands). s.history) c.self.view_is)
    ∙ ap (λ q. c.args.self.now.history ++ Split q c.in-Ok-rob.new.items c.args.thief ∷ []) (c.in-Ok.ensures.place ∙ ap place_of same))

pub returns-in-Ok-rob-clause-fit : goal.returns-in-Ok-rob-clause-fit
returns-in-Ok-rob-clause-fit g c =
    let old : c.reserve.new.self.items ≡ c.args.self.now.pieces = c.reserve.ensures.items ∙ ap (λ (s : PlainStrands). s.pieces) c.self.view_is in
    let at : c.index_mut.result.now ≡ get_or c.args.self.now.pieces c.args.number c.index_mut.result.now =
    c.index_mut.ensures.value ∙ ap (λ xs. get_or xs c.args.number c.index_mut.result.now) old in
    let put : c.insert.new.self.items ≡ insert (set c.reserve.new.self.items c.args.number c.rob.new.self) (c.args.number + 1) c.in-Ok-rob.piece = search rules in
    let now : c.insert.new.self.items ≡ insert (set c.args.self.now.pieces c.args.number c.rob.new.self) (suc c.args.number) c.in-Ok-rob.piece =
    put ∙ ap (λ xs. insert (set xs c.args.number c.rob.new.self) (c.args.number + 1) c.in-Ok-rob.piece) old ∙ ap (λ n. insert (set c.args.self.now.pieces c.args.number c.rob.new.self) n c.in-Ok-rob.piece) (add-one c.args.number) in
    record {
      pieces = subst (All (IsFit c.args.program.now.kinds)) (sym now)
          (parted_fit c.args.program.now.kinds c.args.number c.args.self.now c.index_mut.result.now c.rob.new.self c.in-Ok-rob.piece c.requires.number at c.requires.fit c.in-Ok-rob.ensures.strand c.in-Ok-rob.ensures.fit);
      kits = subst (λ (s : PlainStrands). All (λ k. k ≡ c.args.program.now.kinds) s.kits) (sym c.self.view_is) c.requires.fit.kits;
    }

pub returns-in-Ok-rob-clause-kits : goal.returns-in-Ok-rob-clause-kits
returns-in-Ok-rob-clause-kits g c =
    let old : c.reserve.new.self.items ≡ c.args.self.now.pieces = c.reserve.ensures.items ∙ ap (λ (s : PlainStrands). s.pieces) c.self.view_is in
    let at : c.index_mut.result.now ≡ get_or c.args.self.now.pieces c.args.number c.index_mut.result.now =
    c.index_mut.ensures.value ∙ ap (λ xs. get_or xs c.args.number c.index_mut.result.now) old in
    let put : c.insert.new.self.items ≡ insert (set c.reserve.new.self.items c.args.number c.rob.new.self) (c.args.number + 1) c.in-Ok-rob.piece = search rules in
    let now : c.insert.new.self.items ≡ insert (set c.args.self.now.pieces c.args.number c.rob.new.self) (suc c.args.number) c.in-Ok-rob.piece =
    put ∙ ap (λ xs. insert (set xs c.args.number c.rob.new.self) (c.args.number + 1) c.in-Ok-rob.piece) old ∙ ap (λ n. insert (set c.args.self.now.pieces c.args.number c.rob.new.self) n c.in-Ok-rob.piece) (add-one c.args.number) in
    let more : layers_in c.insert.new.self.items ≡ layers_in c.args.self.now.pieces + 1 =
    ap layers_in now ∙ parted_layers c.args.program.now.kinds c.args.number c.args.self.now c.index_mut.result.now c.rob.new.self c.in-Ok-rob.piece c.requires.number at c.in-Ok-rob.ensures.strand c.in-Ok-rob.ensures.one_layer in
    let kits : length c.self.inside.pool.kits ≡ length c.args.self.now.kits = ap (λ (s : PlainStrands). length s.kits) c.self.view_is in
    omega arith

pub invariant_of-self-in-Ok-rob : goal.invariant_of-self-in-Ok-rob
invariant_of-self-in-Ok-rob g c =
    let old : c.reserve.new.self.items ≡ c.args.self.now.pieces = c.reserve.ensures.items ∙ ap (λ (s : PlainStrands). s.pieces) c.self.view_is in
    let at : c.index_mut.result.now ≡ get_or c.args.self.now.pieces c.args.number c.index_mut.result.now =
    c.index_mut.ensures.value ∙ ap (λ xs. get_or xs c.args.number c.index_mut.result.now) old in
    let put : c.insert.new.self.items ≡ insert (set c.reserve.new.self.items c.args.number c.rob.new.self) (c.args.number + 1) c.in-Ok-rob.piece = search rules in
    let now : c.insert.new.self.items ≡ insert (set c.args.self.now.pieces c.args.number c.rob.new.self) (suc c.args.number) c.in-Ok-rob.piece =
    put ∙ ap (λ xs. insert (set xs c.args.number c.rob.new.self) (c.args.number + 1) c.in-Ok-rob.piece) old ∙ ap (λ n. insert (set c.args.self.now.pieces c.args.number c.rob.new.self) n c.in-Ok-rob.piece) (add-one c.args.number) in
    let more : layers_in c.insert.new.self.items ≡ layers_in c.args.self.now.pieces + 1 =
    ap layers_in now ∙ parted_layers c.args.program.now.kinds c.args.number c.args.self.now c.index_mut.result.now c.rob.new.self c.in-Ok-rob.piece c.requires.number at c.in-Ok-rob.ensures.strand c.in-Ok-rob.ensures.one_layer in
    let room : length c.self.inside.pool.kits + layers_in c.self.inside.pieces.items < c.self.inside.pool.total = subst (λ (s : PlainStrands). kits_in s < s.total) (sym c.self.view_is) c.requires.room in
    let pieces : layers_in c.self.inside.pieces.items ≡ layers_in c.args.self.now.pieces = ap (λ (s : PlainStrands). layers_in s.pieces) c.self.view_is in
    omega (arith, more, room, pieces)
