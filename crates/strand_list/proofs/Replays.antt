-- A history replayed step by step.
use Rattle.std.proofs.Common.{◌≡◌, ◌⊎◌, inl, inr, ℕ, ◌+◌, ◌<◌, List, [], ◌∷◌, ◌++◌, length, map, get_or, take, drop, Some, None, sym, ap, ◌∙◌, subst}
use Rattle.std.proofs.lemmas.List.{map-append, take-map, drop-map, take_more, drop_more}
use Rattle.meaning.specs.Strands.{Book, stepped, first_book, replayed, replayed_on}
use Rattle.strand_theory.proofs.Books.{replayed_append}
use Rattle.numbered_runs.specs.Named.{book_step, history}
use Rattle.numbered_runs.specs.declared.step.BookStep.{BookStep}
use Rattle.strand_list.specs.Replays.{RefusedAt, Refuses}
use Rattle.strand_list.specs.declared.error.ReplayError.{ReplayError}
use Rattle.strand_list.specs.declared.error.ReplayError.TheVariants as error

pub replays_more : (steps : List BookStep) (n : ℕ) (s : BookStep) (b c : Book) → n < length steps → s ≡ get_or steps n s → replayed (history (take n steps)) ≡ Some b → stepped b (book_step s) ≡ Some c → replayed (history (take (n + 1) steps)) ≡ Some c
replays_more steps n s b c h at e f =
    ap (λ xs. replayed (history xs)) (take_more steps n s h ∙ ap (λ x. take n steps ++ x ∷ []) (sym at)) ∙ ap replayed (map-append book_step (take n steps) (s ∷ []))
    ∙ replayed_append (Some first_book) (history (take n steps)) (book_step s ∷ []) ∙ ap (λ o. replayed_on o (book_step s ∷ [])) e ∙ ap (λ o. replayed_on o []) f

refused_at : (steps : List BookStep) (n : ℕ) (s : BookStep) (b : Book) → n < length steps → s ≡ get_or steps n s → replayed (history (take n steps)) ≡ Some b → stepped b (book_step s) ≡ None → RefusedAt (history steps) n
refused_at steps n s b h at e f = record {
  book = b;
  step = book_step s;
  later = history (drop (n + 1) steps);
  before = ap replayed (take-map book_step n steps) ∙ e;
  there = drop-map book_step n steps ∙ ap (map book_step) (drop_more steps n s h ∙ ap (λ x. x ∷ drop (n + 1) steps) (sym at));
  refused = f;
}

pub refuses : (steps : List BookStep) (n : ℕ) (s : BookStep) (b : Book) (e : ReplayError) → n < length steps → s ≡ get_or steps n s → replayed (history (take n steps)) ≡ Some b
    → (e ≡ error.NoMemory) ⊎ ((e ≡ error.BadStep n) × (stepped b (book_step s) ≡ None)) → Refuses (history steps) e
refuses steps n s b e h at r (inl f) = subst (Refuses (history steps)) (sym f) tt
refuses steps n s b e h at r (inr f) = subst (Refuses (history steps)) (sym f.0) (refused_at steps n s b h at r f.1)
