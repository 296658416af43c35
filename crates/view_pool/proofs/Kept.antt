-- A value stays one of its kind.
use Rattle.std.specs.Prelude.{◌≡◌, Result, Ok, Err, OnOk, OnErr}
use Rattle.std.proofs.Common.{ℕ, ◌<◌, Bool, true, false, refl, List, length, map, set, get_or, ◌∙◌, ap, sym, subst}
use Rattle.std.proofs.Math.Seq.{map-set_same}
use Rattle.monoid_laws.specs.Worth.{Worth}
use Rattle.monoid_laws.specs.Kinds.{operate, IsWorth}
use Rattle.monoid_laws.specs.declared.Kind.{Kind}
use Rattle.monoid_laws.proofs.Laws.{operate_right}

pub IsWorth-combined : {E : Type 0} (r : Result (Unit {0}) E) (k : Kind) (w v e : Worth) → OnOk r (v ≡ operate k w e) → OnOk r (IsWorth k e) → OnErr r (v ≡ w) → IsWorth k w → IsWorth k v
IsWorth-combined (Ok u) k w v e a b d h = subst (IsWorth k) (sym a) (operate_right k w e h b)
IsWorth-combined (Err u) k w v e a b d h = subst (IsWorth k) (sym d) h

pub kinds_written : {X : Type 0} (kind : X → Kind) (xs : List X) (i : ℕ) (old new : X) → i < length xs → old ≡ get_or xs i old → kind new ≡ kind old → map kind (set xs i new) ≡ map kind xs
kinds_written kind xs i old new h is same = map-set_same kind xs i new old (same ∙ ap kind is)

pub IsWorth-at_once : (b : Bool) (k : Kind) (w v e : Worth) → (b ≡ true → v ≡ operate k w e) → (b ≡ false → v ≡ w) → IsWorth k e → IsWorth k w → IsWorth k v
IsWorth-at_once true k w v e done same b h = subst (IsWorth k) (sym (done refl)) (operate_right k w e h b)
IsWorth-at_once false k w v e done same b h = subst (IsWorth k) (sym (same refl)) h
