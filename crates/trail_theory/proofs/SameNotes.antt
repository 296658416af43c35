-- Layers that have noted the same: reads and procedures as sets.
use Rattle.std.proofs.Common.{List, [], ◌∷◌, ◌++◌, ⊎_elim, refl, sym, ap, ap₂}
use Rattle.std.specs.Prelude.{max, slice_get}
use Rattle.std.specs.List.{Contains}
use Rattle.std.proofs.lemmas.List.Elements.{Contains-append_left, Contains-append_right, Contains-append_cases}
use Rattle.meaning.specs.Tree.{Tree}
use Rattle.meaning.specs.Outcome.{Log, Event, Reads, Enters, Updates, Reuses, Begins, Syncs, Leaves, Faults, Marks, Spawns, updated, combined}
use Rattle.meaning.specs.Statements.{reducers}
use Rattle.meaning.specs.Records.{with_kinds}
use Rattle.meaning.specs.Layers.{Notes, noted_one, noted, multiplied, SameNotes}

pub same_refl : (a : Notes) → SameNotes a a
same_refl a = record { worth = refl; deepest = refl; read = λ r. ((λ c. c), (λ c. c)); entered = λ f. ((λ c. c), (λ c. c)) }

pub same_sym : (a b : Notes) → SameNotes a b → SameNotes b a
same_sym a b h = record { worth = sym h.worth; deepest = sym h.deepest; read = λ r. ((h.read r).1, (h.read r).0); entered = λ f. ((h.entered f).1, (h.entered f).0) }

-- more behind each of two lists with the same elements
both_in : {A : Type 0} (xs ys zs ws : List A) (x : A) → (Contains xs x → Contains ys x) → (Contains zs x → Contains ws x) → Contains (xs ++ zs) x → Contains (ys ++ ws) x
both_in xs ys zs ws x h k c = ⊎_elim (λ i. Contains-append_left ys ws x (h i)) (λ i. Contains-append_right ys ws x (k i)) (Contains-append_cases xs zs x c)

noted_one_same : (a b : Notes) (e : Event) → SameNotes a b → SameNotes (noted_one a e) (noted_one b e)
noted_one_same a b (Reads r) h = record { worth = h.worth; deepest = h.deepest; read = λ s. (both_in a.read b.read (r ∷ []) (r ∷ []) s (h.read s).0 (λ c. c), both_in b.read a.read (r ∷ []) (r ∷ []) s (h.read s).1 (λ c. c)); entered = h.entered }
noted_one_same a b (Enters f args d) h = record { worth = h.worth; deepest = ap (λ x. max x d) h.deepest; read = h.read; entered = λ s. (both_in a.entered b.entered (f ∷ []) (f ∷ []) s (h.entered s).0 (λ c. c), both_in b.entered a.entered (f ∷ []) (f ∷ []) s (h.entered s).1 (λ c. c)) }
noted_one_same a b (Updates n kind w) h = record { worth = ap (λ x. updated x n kind w (slice_get x n)) h.worth; deepest = h.deepest; read = h.read; entered = h.entered }
noted_one_same a b (Reuses f args ws) h = h
noted_one_same a b (Begins n d) h = h
noted_one_same a b (Syncs n) h = h
noted_one_same a b (Spawns n) h = h
noted_one_same a b (Leaves n v) h = h
noted_one_same a b (Faults k) h = h
noted_one_same a b (Marks f args c) h = h

pub noted_same : (a b : Notes) (es : Log) → SameNotes a b → SameNotes (noted a es) (noted b es)
noted_same a b [] h = h
noted_same a b (e ∷ es) h = noted_same (noted_one a e) (noted_one b e) es (noted_one_same a b e h)

pub multiplied_same : (program : Tree) (a b c d : Notes) → SameNotes a b → SameNotes c d → SameNotes (multiplied program a c) (multiplied program b d)
multiplied_same program a b c d h k =
    record {
      worth = ap₂ (λ x y. combined x (with_kinds (reducers program) y)) h.worth k.worth;
      deepest = ap₂ max h.deepest k.deepest;
      read = λ s. (both_in a.read b.read c.read d.read s (h.read s).0 (k.read s).0, both_in b.read a.read d.read c.read s (h.read s).1 (k.read s).1);
      entered = λ s. (both_in a.entered b.entered c.entered d.entered s (h.entered s).0 (k.entered s).0, both_in b.entered a.entered d.entered c.entered s (h.entered s).1 (k.entered s).1);
    }
