use Rattle.std.proofs.Common.{◌≡◌, ◌++◌, ◌∷◌, [], length, rules, sym, ◌∙◌, refl, string_bytes}
use Rattle.std.proofs.lemmas.List.{length-map, map_push}
use Rattle.source_tree.specs.Source.{texts}
use Rattle.source_tree.proofs.Pools.{place_push}
use Rattle.source_tree.proofs.pool.Pool.put_new.Goals as goal

pub invariant_of-self-2 : goal.invariant_of-self-2
invariant_of-self-2 c = λ x.
    let pool = texts c.self.inside.names.items in
    let i1 : c.push.new.self.items ≡ c.reserve.new.self.items ++ c.in_ok-stored.stored ∷ [] = search rules in
    let i2 : c.reserve.new.self.items ≡ c.self.inside.names.items = search rules in
    let i3 : string_bytes c.in_ok-stored.stored ≡ c.args.name.now = c.in_ok-stored.ensures.ok in
    let p : texts c.push.new.self.items ≡ pool ++ c.args.name.now ∷ [] = rw (i1, i2, map_push, i3) refl in
    let l : c.len.result ≡ length c.reserve.new.self.items = search rules in
    let n : c.len.result ≡ length pool = rw (l, i2) (sym (length-map c.self.inside.names.items _)) in
    let k = c.in_ok-keep_new.ensures.indexed x in
    k ∙ rw (c.self.invariant x, n, p) (sym (place_push x c.args.name.now pool))
