-- The lines of reducers when there are no more of them.
use Rattle.std.proofs.Common.{◌≡◌, ℕ, ◌≤◌, List, [], ◌∷◌, ◌++◌, length, map, drop, refl, sym, append-nil}
use Rattle.std.proofs.lemmas.List.{drop_all}
use Rattle.monoid_laws.specs.Worth.{Worth}
use Rattle.meaning.specs.Statements.{reducers}
use Rattle.meaning.specs.declared.tree.Declaration.{Declaration}
use Rattle.meaning.specs.TreeView.{decl}
use Rattle.meaning.specs.Text.{worths_text}

pub worths_text-none : (ws : List Worth) → worths_text [] ws ≡ []
worths_text-none [] = refl
worths_text-none (w ∷ ws) = refl

-- after the last declaration all is written
pub all_written : (k : ℕ) (ds : List Declaration) (ws : List Worth) (whole new : List ℕ) → length ds ≤ k
    → whole ≡ new ++ worths_text (reducers (map decl (drop k ds))) ws → new ≡ whole
all_written k ds ws whole new h left = sym (rw (drop_all k ds h, worths_text-none, append-nil) at left)
