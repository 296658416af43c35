-- What is needed of a run after another one and an edit, on small programs, by computation.
use Rattle.std.specs.Prelude.{◌≡◌, ℕ, pos, List, [], ◌∷◌, length}
use Rattle.std.proofs.Common.{refl}
use Rattle.std.specs.Int.{int_wrap}
use Rattle.monoid_laws.specs.Worth as w
use Rattle.meaning.specs.Tree.{Tree}
use Rattle.meaning.specs.Tables.{Tables}
use Rattle.meaning.specs.Elision.{all_turns, elide, from_scratch, Finished}
use Rattle.meaning.specs.Records.{Kept, Revised, needing, needed, executed, reused}
use Rattle.meaning.specs.Commits.{made_of, kept_after}
use Rattle.monoid_laws.specs.declared.Kind.TheVariants as k
use Rattle.meaning.proofs.Samples.{lines, lines_nested, shares, sales, row, num, red, down, calls, calls0, n_line, n_share, n_main, n_all, n_a, n_b, n_c, n_down, n_steps}

-- how many instances are entered, and how many are answered
abbrev counts : Revised → Tables → List Kept → ℕ × ℕ
counts program tables records = let log = needed program tables records in (length (executed program.tree log), length (reused log))

abbrev lines_now : Revised
lines_now = record { tree = lines; revisions = (n_line, 0) ∷ (n_main, 1) ∷ []; counter = 2 }

abbrev three_rows : Tables
three_rows = sales (row 1 2 5 ∷ row 2 3 7 ∷ row 3 1 100 ∷ [])

first_run-counts : counts lines_now three_rows [] ≡ (3, 0)
unfolding all_turns needing int_wrap
first_run-counts = refl

abbrev kept_lines : List Kept
kept_lines = kept_after lines_now three_rows []

-- one line was put anew
rerun_one_line-counts : counts lines_now (sales (row 1 2 5 ∷ row 2 4 7 ∷ row 3 1 100 ∷ [])) kept_lines ≡ (1, 2)
unfolding all_turns elide needing int_wrap
rerun_one_line-counts = refl

-- the tables are as they were
there_and_back-counts : counts lines_now three_rows kept_lines ≡ (0, 3)
unfolding all_turns elide needing int_wrap
there_and_back-counts = refl

abbrev shares_now : Revised
shares_now = record { tree = shares; revisions = (n_share, 0) ∷ (n_main, 1) ∷ []; counter = 2 }

abbrev kept_shares : List Kept
kept_shares = kept_after shares_now three_rows []

-- another price: no share read it
shares-price : counts shares_now (sales (row 1 2 5 ∷ row 2 3 8 ∷ row 3 1 100 ∷ [])) kept_shares ≡ (0, 3)
unfolding all_turns elide needing int_wrap
shares-price = refl

-- two quantities are others, and their sum is as it was
shares-moved : counts shares_now (sales (row 1 3 5 ∷ row 2 2 7 ∷ row 3 1 100 ∷ [])) kept_shares ≡ (2, 1)
unfolding all_turns elide needing int_wrap
shares-moved = refl

-- another sum: every share
shares-sum : counts shares_now (sales (row 1 2 5 ∷ row 2 4 7 ∷ row 3 1 100 ∷ [])) kept_shares ≡ (3, 0)
unfolding all_turns elide needing int_wrap
shares-sum = refl

abbrev nested_now : Revised
nested_now = record { tree = lines_nested; revisions = (n_line, 0) ∷ (n_all, 1) ∷ (n_main, 2) ∷ []; counter = 3 }

nested_memo_reads-counts : counts nested_now three_rows [] ≡ (4, 0)
unfolding all_turns needing int_wrap
nested_memo_reads-counts = refl

abbrev kept_1 : List Kept
kept_1 = kept_after nested_now three_rows []

abbrev with_fifth : Tables
with_fifth = sales (row 1 2 5 ∷ row 2 3 7 ∷ row 3 1 100 ∷ row 5 1 1 ∷ [])

-- a fifth row: all, line 4 and line 5
nested_memo_reads-fifth : counts nested_now with_fifth kept_1 ≡ (3, 3)
unfolding all_turns elide needing int_wrap
nested_memo_reads-fifth = refl

abbrev kept_2 : List Kept
kept_2 = kept_after nested_now with_fifth kept_1

abbrev with_fourth : Tables
with_fourth = sales (row 1 2 5 ∷ row 2 3 7 ∷ row 3 1 100 ∷ row 4 2 2 ∷ row 5 1 1 ∷ [])

-- the fourth row, which was read as absent: all and line 4
nested_memo_reads-fourth : counts nested_now with_fourth kept_2 ≡ (2, 4)
unfolding all_turns elide needing int_wrap
nested_memo_reads-fourth = refl

nested_memo_reads-fourth_answer : from_scratch lines_nested with_fourth ≡ Finished (pos 136) (w.number (pos 136) ∷ [])
unfolding from_scratch all_turns elide int_wrap
nested_memo_reads-fourth_answer = refl

abbrev kept_3 : List Kept
kept_3 = kept_after nested_now with_fourth kept_2

abbrev with_first : Tables
with_first = sales (row 1 2 6 ∷ row 2 3 7 ∷ row 3 1 100 ∷ row 4 2 2 ∷ row 5 1 1 ∷ [])

-- the first row anew: all and line 1
nested_memo_reads-first : counts nested_now with_first kept_3 ≡ (2, 4)
unfolding all_turns elide needing int_wrap
nested_memo_reads-first = refl

nested_memo_reads-first_answer : from_scratch lines_nested with_first ≡ Finished (pos 138) (w.number (pos 138) ∷ [])
unfolding from_scratch all_turns elide int_wrap
nested_memo_reads-first_answer = refl

-- a record of height 253 answers at depth 4, and no longer at depth 5
abbrev counted : Tree → Revised
counted tree = record { tree = tree; revisions = (n_down, 0) ∷ []; counter = 1 }

abbrev countdown : Tree
countdown = red n_steps k.Add ∷ down ∷ calls n_main n_down (num 252) ∷ []

heights-counts : counts (counted countdown) [] [] ≡ (253, 0)
unfolding needing int_wrap
heights-counts = refl

abbrev kept_heights : List Kept
kept_heights = made_of (counted countdown) [] (n_down, pos 252 ∷ []) ∷ []

abbrev fourth : Tree
fourth = red n_steps k.Add ∷ down ∷ calls0 n_main n_a ∷ calls0 n_a n_b ∷ calls n_b n_down (num 252) ∷ []

heights-fourth : counts (counted fourth) [] kept_heights ≡ (0, 1)
unfolding elide needing int_wrap
heights-fourth = refl

heights-fourth_answer : from_scratch fourth [] ≡ Finished (pos 252) (w.number (pos 253) ∷ [])
unfolding from_scratch elide int_wrap
heights-fourth_answer = refl

heights-fifth : reused (needed (counted (red n_steps k.Add ∷ down ∷ calls0 n_main n_a ∷ calls0 n_a n_b ∷ calls0 n_b n_c ∷ calls n_c n_down (num 252) ∷ [])) [] kept_heights) ≡ []
unfolding elide needing int_wrap
heights-fifth = refl
