use Rattle.std.proofs.Common.{◌≡◌, ℕ, List, Option, Some, None, string_bytes, nat_cmp, cond, ◌==◌, ap, sym, ◌∙◌, false}
use Rattle.std.specs.Prelude.{is_some, bytes_eq}
use Rattle.std.specs.BTreeMap.{get, get_by_text}
use Rattle.std.specs.Cmp.{unsigned_tied}
use Rattle.std.proofs.lemmas.Map.Text.{btree_map_updates_text}
use Rattle.source_tree.specs.Packing.{packed, place_in}
use Rattle.source_tree.proofs.Packed.{by_number, by_text}
use Rattle.source_tree.proofs.Pools.{index_new}
use Rattle.source_tree.proofs.places.Places.keep_new.Goals as goal

pub returns-in-Some-clause-indexed : goal.returns-in-Some-clause-indexed
returns-in-Some-clause-indexed c = λ x.
    let before = c.args.self.now in
    let name = c.args.name.now in
    let number = c.in-Some.number in
    let short : ℕ → Option ℕ = λ k. get nat_cmp before.short k in
    let now : ℕ → Option ℕ = λ k. get nat_cmp c.insert.new.self k in
    let p : packed name ≡ Some number = sym c.packed.ensures ∙ c.in-Some.is in
    let u : (j : ℕ) → now j ≡ cond (number == j) (Some c.args.place) (short j) = λ j. c.in_ok-insert.ensures.updates.0 j ∙ ap (λ b. cond b (Some c.args.place) (short j)) (unsigned_tied number j) in
    let n : is_some (place_in before name) ≡ false = ap (λ (o : Option ℕ). is_some o) c.requires in
    by_number short (λ y. get_by_text before.long y) name c.args.place now number p u x ∙ index_new (λ y. place_in before y) name c.args.place x n

pub returns-clause-indexed : goal.returns-clause-indexed
returns-clause-indexed c = λ x.
    let before = c.args.self.now in
    let name = c.args.name.now in
    let long : List ℕ → Option ℕ = λ y. get_by_text before.long y in
    let now : List ℕ → Option ℕ = λ y. get_by_text c.insert-2.new.self y in
    let p : packed name ≡ None = sym c.packed.ensures ∙ c.in_default.is in
    let k : string_bytes c.in_ok-key.key ≡ name = c.in_ok-key.ensures.ok in
    let u : (y : List ℕ) → now y ≡ cond (bytes_eq name y) (Some c.args.place) (long y) = λ y.
    btree_map_updates_text (string_bytes c.in_ok-key.key) before.long c.insert-2.new.self (Some c.args.place) c.in_ok-insert-2.ensures.updates y ∙ ap (λ (bs : List ℕ). cond (bytes_eq bs y) (Some c.args.place) (long y)) k in
    let n : is_some (place_in before name) ≡ false = ap (λ (o : Option ℕ). is_some o) c.requires in
    by_text (λ i. get nat_cmp before.short i) long name c.args.place now p u x ∙ index_new (λ y. place_in before y) name c.args.place x n
