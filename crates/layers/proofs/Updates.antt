-- Updates of one reducer's value.
use Rattle.std.proofs.Common.{◌≡◌, ℕ, ◌<◌, ℤ, pos, true, List, [], length, Result, Ok, Err, OnOk, slice_set, slice_get, Some, sym, ap, ◌∙◌, subst, get_or}
use Rattle.std.proofs.lemmas.Option.{slice_get-get_or, get_or_from_slice_get}
use Rattle.std.proofs.lemmas.List.{set-get_or}
use Rattle.monoid_laws.specs.declared.Kind.{Kind}
use Rattle.monoid_laws.specs.declared.Kind.TheVariants as k
use Rattle.monoid_laws.specs.Worth.{Worth, number, items}
use Rattle.monoid_laws.specs.Kinds.{operate, element_of, AreWorths, IsWorth}
use Rattle.monoid_laws.proofs.Laws.{IsMonoid-kind}
use Rattle.monoid_laws.proofs.Rows.{AreWorths-at}
use Rattle.hypermaps.specs.Layer.{IsAt}
use Rattle.positions.specs.Layers.{PlainLayer, updating, updated_by}
use Rattle.layers.specs.Updates.{is_list, IsIdentity}
use Rattle.record_theory.proofs.Absorbed.{each}

-- the value of a reducer that there is
abbrev value_at : List Worth → ℕ → Worth
value_at ws r = get_or ws r (number (pos 0))

there : (cs : List Kind) (ws : List Worth) (r : ℕ) → AreWorths cs ws → r < length cs → slice_get ws r ≡ Some (value_at ws r)
there cs ws r h l = slice_get-get_or ws r (number (pos 0)) (subst (λ n. r < n) (each cs ws h) l)

is_there : (cs : List Kind) (ws : List Worth) (r : ℕ) → AreWorths cs ws → r < length cs → IsAt ws r (value_at ws r)
is_there cs ws r h l = sym (get_or_from_slice_get ws r (value_at ws r) (value_at ws r) (there cs ws r h l))

updated_there : (r : ℕ) (kind : Kind) (vs : List ℤ) (cs : List Kind) (ws : List Worth) → AreWorths cs ws → r < length cs
    → updated_by r kind vs ws (slice_get ws r) ≡ slice_set ws r (operate kind (value_at ws r) (element_of kind vs))
updated_there r kind vs cs ws h l = ap (updated_by r kind vs ws) (there cs ws r h l)

done_as : {E : Type 0} (res : Result (Unit {0}) E) (l : PlainLayer) (cs : List Kind) (ws xs ys : List Worth) → cs ≡ l.kinds → xs ≡ ys → OnOk res (ws ≡ ys)
    → OnOk res (record l { kinds = cs; worths = ws } ≡ record l { worths = xs })
done_as (Ok u) l cs ws xs ys e f g = ap (λ z. record l { kinds = z; worths = ws }) e ∙ ap (λ z. record l { worths = z }) (g ∙ sym f)
done_as (Err u) l cs ws xs ys e f g = tt

pub updated_on : {E : Type 0} (res : Result (Unit {0}) E) (l : PlainLayer) (cs : List Kind) (ws : List Worth) (r : ℕ) (kind : Kind) (vs : List ℤ) → AreWorths l.kinds l.worths
    → r < length l.kinds → cs ≡ l.kinds → ((x : Worth) → IsAt l.worths r x → OnOk res (ws ≡ slice_set l.worths r (operate kind x (element_of kind vs))))
    → OnOk res (record l { kinds = cs; worths = ws } ≡ updating r kind vs l)
updated_on res l cs ws r kind vs h less e f =
    done_as res l cs ws (updated_by r kind vs l.worths (slice_get l.worths r)) (slice_set l.worths r (operate kind (value_at l.worths r) (element_of kind vs))) e
    (updated_there r kind vs l.kinds l.worths h less) (f (value_at l.worths r) (is_there l.kinds l.worths r h less))

right_identity : (kind : Kind) (w : Worth) → is_list kind ≡ true → IsWorth kind w → operate kind w (items []) ≡ w
right_identity k.List w e h = (IsMonoid-kind k.List tt).right_identity w h
right_identity (k.First n) w e h = (IsMonoid-kind (k.First n) tt).right_identity w h
right_identity (k.Last n) w e h = (IsMonoid-kind (k.Last n) tt).right_identity w h
right_identity _ w e h = absurd cc

pub unchanged_by : (l : PlainLayer) (r : ℕ) (kind : Kind) (vs : List ℤ) → AreWorths l.kinds l.worths → r < length l.kinds → IsAt l.kinds r kind → IsIdentity kind vs → l ≡ updating r kind vs l
unchanged_by l r kind vs h less at i =
    let w : IsWorth kind (value_at l.worths r) = AreWorths-at l.kinds l.worths r kind (value_at l.worths r) h less at (is_there l.kinds l.worths r h less) in
    let same : slice_set l.worths r (operate kind (value_at l.worths r) (element_of kind vs)) ≡ l.worths =
    ap (λ e. slice_set l.worths r (operate kind (value_at l.worths r) e)) i.element
    ∙ ap (slice_set l.worths r) (right_identity kind (value_at l.worths r) i.list w)
    ∙ set-get_or l.worths r (number (pos 0)) in
    ap (λ z. record l { worths = z }) (sym (updated_there r kind vs l.kinds l.worths h less ∙ same))
