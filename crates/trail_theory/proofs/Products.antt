-- The product of the layers of neighbouring stretches is the layer of both.
use Rattle.std.proofs.Common.{ℕ, zero, suc, List, [], ◌∷◌, ◌++◌, Option, Some, None, ◌≡◌, refl, sym, ap, ap₂, ◌∙◌, subst, arith, append_assoc, append-nil, map}
use Rattle.std.specs.Prelude.{slice_get, max, All}
use Rattle.std.proofs.lemmas.List.Elements.{All-head, All-tail, All-nil, All-cons}
use Rattle.monoid_laws.specs.declared.Kind.{Kind}
use Rattle.monoid_laws.specs.Worth.{Worth}
use Rattle.monoid_laws.specs.Kinds.{operate, operate_all, identity_of, identities as identities_of, IsWorth, AreWorths, IsMonoid, IsTableMonoid}
use Rattle.monoid_laws.proofs.Laws.{operate_right, IsMonoid-kind}
use Rattle.monoid_laws.proofs.Rows.{operate_all_identities, AreWorths-identities}
use Rattle.meaning.specs.Tree.{Red, Tree}
use Rattle.meaning.specs.Tables.{Tables}
use Rattle.meaning.specs.Outcome.{Log, Accumulators, Event, Reads, Enters, Updates, Reuses, Begins, Syncs, Leaves, Faults, Marks, Spawns, updated, combined}
use Rattle.meaning.specs.Statements.{reducers, identities}
use Rattle.meaning.specs.Records.{with_kinds}
use Rattle.meaning.specs.Trail.{trail_at}
use Rattle.meaning.specs.SmallStep.{Lookup, look_of}
use Rattle.trail_theory.specs.Order.{Every}
use Rattle.meaning.specs.Layers.{Notes, noted_one, noted, blank, notes, multiplied}
use Rattle.trail_theory.specs.Right.{StretchesMultiply}
use Rattle.trail_theory.specs.Typed.{kinds_of, HasMonoids, IsTyped}
use Rattle.trail_theory.proofs.Stepping.{noted_append}

monoids : (cs : List Kind) → Every IsTableMonoid cs → All IsMonoid cs
monoids [] h = All-nil IsMonoid
monoids (c ∷ cs) h = All-cons IsMonoid c cs (IsMonoid-kind c h.0) (monoids cs h.1)

-- one reducer's value after an update
abbrev stepped : Accumulators → ℕ → Kind → Worth → Accumulators
stepped acc n kind w = updated acc n kind w (slice_get acc n)

later_updated : (x : Worth) (xs : Accumulators) (n : ℕ) (kind : Kind) (w : Worth) (o : Option Worth) → updated (x ∷ xs) (suc n) kind w o ≡ x ∷ updated xs n kind w o
later_updated x xs n kind w None = refl
later_updated x xs n kind w (Some b) = refl

worths_after : (cs : List Kind) (acc : Accumulators) (n : ℕ) (kind : Kind) (w : Worth) → AreWorths cs acc → slice_get cs n ≡ Some kind → IsWorth kind w → AreWorths cs (stepped acc n kind w)
worths_after [] [] n kind w a e h = tt
worths_after [] (x ∷ xs) n kind w a e h = absurd a
worths_after (c ∷ cs) [] n kind w a e h = absurd a
worths_after (c ∷ cs) (x ∷ xs) zero kind w a e h = let q : c ≡ kind = cc in (subst (λ k. IsWorth k (operate kind x w)) (sym q) (operate_right kind x w (subst (λ k. IsWorth k x) q a.0) h), a.1)
worths_after (c ∷ cs) (x ∷ xs) (suc n) kind w a e h = rw (later_updated x xs n kind w (slice_get xs n)) (a.0, worths_after cs xs n kind w a.1 e h)

-- an update behind a product is one of its right side
product_after : (cs : List Kind) (a b : Accumulators) (n : ℕ) (kind : Kind) (w : Worth) → All IsMonoid cs → AreWorths cs a → AreWorths cs b → slice_get cs n ≡ Some kind → IsWorth kind w
    → operate_all cs a (stepped b n kind w) ≡ stepped (operate_all cs a b) n kind w
product_after [] a b n kind w m f g e h = absurd cc
product_after (c ∷ cs) [] b n kind w m f g e h = absurd f
product_after (c ∷ cs) (x ∷ a) [] n kind w m f g e h = absurd g
product_after (c ∷ cs) (x ∷ a) (y ∷ b) zero kind w m f g e h =
    let q : c ≡ kind = cc in
    let law : operate kind (operate kind x y) w ≡ operate kind x (operate kind y w) = (subst IsMonoid q (All-head IsMonoid c cs m)).associative x y w (subst (λ k. IsWorth k x) q f.0) (subst (λ k. IsWorth k y) q g.0) h in
    ap (λ v. v ∷ operate_all cs a b) (ap (λ k. operate k x (operate kind y w)) q ∙ sym law ∙ ap (λ k. operate kind (operate k x y) w) (sym q))
product_after (c ∷ cs) (x ∷ a) (y ∷ b) (suc n) kind w m f g e h =
    ap (λ v. operate_all (c ∷ cs) (x ∷ a) v) (later_updated y b n kind w (slice_get b n)) ∙ ap (λ v. operate c x y ∷ v) (product_after cs a b n kind w (All-tail IsMonoid c cs m) f.1 g.1 e h)
    ∙ sym (later_updated (operate c x y) (operate_all cs a b) n kind w (slice_get (operate_all cs a b) n))

-- the layers' product is the reducers'
product_is : (reds : List Red) (a b : Accumulators) → AreWorths (map (λ r. r.kind) reds) a → AreWorths (map (λ r. r.kind) reds) b → combined a (with_kinds reds b) ≡ operate_all (map (λ r. r.kind) reds) a b
product_is [] [] b f g = refl
product_is [] (x ∷ a) b f g = absurd f
product_is (r ∷ reds) [] b f g = absurd f
product_is (r ∷ reds) (x ∷ a) [] f g = absurd g
product_is (r ∷ reds) (x ∷ a) (y ∷ b) f g = ap (λ v. operate r.kind x y ∷ v) (product_is reds a b f.1 g.1)

identities_are : (reds : List Red) → map (λ r. identity_of r.kind) reds ≡ identities_of (map (λ r. r.kind) reds)
identities_are [] = refl
identities_are (r ∷ reds) = ap (λ v. identity_of r.kind ∷ v) (identities_are reds)

max_twice : (a b c : ℕ) → max a (max b c) ≡ max (max a b) c
max_twice a b c = omega arith

module _ (program : Tree) (good : HasMonoids program) where
  abbrev cs : List Kind
  cs = kinds_of program

  abbrev Worthy : Notes → Type 0
  Worthy l = AreWorths cs l.worth

  pub blank_worthy : Worthy (blank program)
  blank_worthy = rw (identities_are (reducers program)) (AreWorths-identities cs)

  worthy_one : (l : Notes) (e : Event) → IsTyped cs e → Worthy l → Worthy (noted_one l e)
  worthy_one l (Updates n kind w) t h = worths_after cs l.worth n kind w h t.0 t.1
  worthy_one l (Reads r) t h = h
  worthy_one l (Enters f args d) t h = h
  worthy_one l (Reuses f args ws) t h = h
  worthy_one l (Begins n d) t h = h
  worthy_one l (Syncs n) t h = h
  worthy_one l (Spawns n) t h = h
  worthy_one l (Leaves n v) t h = h
  worthy_one l (Faults k) t h = h
  worthy_one l (Marks f args b) t h = h

  pub worthy : (l : Notes) (es : Log) → Every (IsTyped cs) es → Worthy l → Worthy (noted l es)
  worthy l [] t h = h
  worthy l (e ∷ es) t h = worthy (noted_one l e) es t.1 (worthy_one l e t.0 h)

  worth_product : (a b : Accumulators) (n : ℕ) (kind : Kind) (w : Worth) → AreWorths cs a → AreWorths cs b → slice_get cs n ≡ Some kind → IsWorth kind w
      → combined a (with_kinds (reducers program) (stepped b n kind w)) ≡ stepped (combined a (with_kinds (reducers program) b)) n kind w
  worth_product a b n kind w f g e h =
      product_is (reducers program) a (stepped b n kind w) f (worths_after cs b n kind w g e h) ∙ product_after cs a b n kind w (monoids cs good) f g e h
      ∙ ap (λ v. stepped v n kind w) (sym (product_is (reducers program) a b f g))

  product_one : (a l : Notes) (e : Event) → IsTyped cs e → Worthy a → Worthy l → multiplied program a (noted_one l e) ≡ noted_one (multiplied program a l) e
  product_one a l (Updates n kind w) t h g = ap (λ v. record { worth = v; read = a.read ++ l.read; entered = a.entered ++ l.entered; deepest = max a.deepest l.deepest }) (worth_product a.worth l.worth n kind w h g t.0 t.1)
  product_one a l (Reads r) t h g = ap (λ v. record { worth = combined a.worth (with_kinds (reducers program) l.worth); read = v; entered = a.entered ++ l.entered; deepest = max a.deepest l.deepest }) (sym (append_assoc a.read l.read (r ∷ [])))
  product_one a l (Enters f args d) t h g = ap₂ (λ v d. record { worth = combined a.worth (with_kinds (reducers program) l.worth); read = a.read ++ l.read; entered = v; deepest = d }) (sym (append_assoc a.entered l.entered (f ∷ []))) (max_twice a.deepest l.deepest d)
  product_one a l (Reuses f args ws) t h g = refl
  product_one a l (Begins n d) t h g = refl
  product_one a l (Syncs n) t h g = refl
  product_one a l (Spawns n) t h g = refl
  product_one a l (Leaves n v) t h g = refl
  product_one a l (Faults k) t h g = refl
  product_one a l (Marks f args b) t h g = refl

  pub product_log : (a l : Notes) (es : Log) → Every (IsTyped cs) es → Worthy a → Worthy l → multiplied program a (noted l es) ≡ noted (multiplied program a l) es
  product_log a l [] t h g = refl
  product_log a l (e ∷ es) t h g = product_log a (noted_one l e) es t.1 h (worthy_one l e t.0 g) ∙ ap (λ v. noted v es) (product_one a l e t.0 h g)

  pub product_blank : (a : Notes) → Worthy a → multiplied program a (blank program) ≡ a
  product_blank a h =
      let w : combined a.worth (with_kinds (reducers program) (identities program)) ≡ a.worth =
      product_is (reducers program) a.worth (identities program) h blank_worthy ∙ ap (operate_all cs a.worth) (identities_are (reducers program)) ∙ operate_all_identities cs a.worth (monoids cs good) h in
      let d : max a.deepest 0 ≡ a.deepest = omega arith in
      rw (w, append-nil a.read, append-nil a.entered, d) refl

  pub product_of : (a b : Log) → Every (IsTyped cs) a → Every (IsTyped cs) b → multiplied program (notes program a) (notes program b) ≡ notes program (a ++ b)
  product_of a b f g =
      let h = worthy (blank program) a f blank_worthy in
      product_log (notes program a) (blank program) b g h blank_worthy ∙ ap (λ v. noted v b) (product_blank (notes program a) h) ∙ sym (noted_append (blank program) a b)

every_left : {A : Type 0} (Q : A → Type 0) (a b : List A) → Every Q (a ++ b) → Every Q a
every_left Q [] b h = tt
every_left Q (x ∷ a) b h = (h.0, every_left Q a b h.1)

every_right : {A : Type 0} (Q : A → Type 0) (a b : List A) → Every Q (a ++ b) → Every Q b
every_right Q [] b h = h
every_right Q (x ∷ a) b h = every_right Q a b h.1

pub stretches_of : (program : Tree) (tables : Tables) (sight : Accumulators) (lookup : Lookup) → HasMonoids program → Every (IsTyped (kinds_of program)) (trail_at program tables sight (look_of lookup)) → StretchesMultiply program tables sight lookup
stretches_of program tables sight lookup good t x a b y e =
    let Q = IsTyped (kinds_of program) in
    let h : Every Q (x ++ (a ++ (b ++ y))) = rw e t in
    let g = every_right Q x (a ++ (b ++ y)) h in
    product_of program good a b (every_left Q a (b ++ y) g) (every_left Q b y (every_right Q a (b ++ y) g))
