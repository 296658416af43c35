-- What scripts say and what their answers' text is, and what defines make of a program, on small programs, by computation.
use Rattle.std.specs.Prelude.{◌≡◌, ℕ, pos, negsuc, true, false, cond, List, [], ◌∷◌, ◌++◌, Some, None, Ok, Err, codes}
use Rattle.std.proofs.Common.{refl}
use Rattle.std.specs.Fmt.{digits}
use Rattle.std.specs.Int.{int_wrap}
use Rattle.std.specs.Str.{bytes_eq}
use Rattle.meaning.specs.Tree.{sync, end, step, Tree}
use Rattle.meaning.specs.TreeView.{Lined}
use Rattle.meaning.specs.Tables.{Tables}
use Rattle.meaning.specs.Elision.{all_turns, elide, from_scratch}
use Rattle.meaning.specs.Records.{Revised, needing}
use Rattle.meaning.specs.Edits.{Standing, Violation, BadText, Broken, Exhausted, Put, Delete, Define, TextReader, Checker, most, revised, after_define}
use Rattle.meaning.specs.Script.{Run, Change, Unknown, number_of, commands}
use Rattle.meaning.specs.Text.{answers_text}
use Rattle.meaning.proofs.Samples.{first_program, faulty, lines, sales, row, proc, n_main, n_a, n_b, n_sales}

-- ---- commands

-- a define has each line up to its `end`, comments and all
edit_commands : commands (codes "put sales 1 -2 03\n# x\ndel\tsales 7 \ndefine\n# y\n\n\tend \nrun") ≡ Change (Put n_sales (pos 1) (negsuc 1 ∷ pos 3 ∷ [])) ∷ Change (Delete n_sales (pos 7)) ∷ Change (Define (codes "# y\n\n")) ∷ Run ∷ []
edit_commands = refl

-- a define without an end takes the rest of the script with it
endless_define : commands (codes "run\ndefine\nrun\nend x\n") ≡ Run ∷ Unknown 2 ∷ []
endless_define = refl

no_commands : commands (codes "put sales 1\ndel sales\ndel sales 1 1\nput sales 1 +2\nput sales - 1\nput sales x 1\nrun 1\nend\ndefine x\n") ≡ Unknown 1 ∷ Unknown 2 ∷ Unknown 3 ∷ Unknown 4 ∷ Unknown 5 ∷ Unknown 6 ∷ Unknown 7 ∷ Unknown 8 ∷ Unknown 9 ∷ []
no_commands = refl

-- a byte that isn't shown makes a line no command, but not a comment
hidden_bytes : commands (codes "del a" ++ 200 ∷ codes " 1\n#" ++ 127 ∷ codes "\ndel a" ++ 13 ∷ codes " 1\n") ≡ Unknown 1 ∷ Unknown 3 ∷ []
hidden_bytes = refl

least_number : number_of (codes "-9223372036854775808") ≡ Some (negsuc 9223372036854775807)
least_number = refl

too_small : number_of (codes "-9223372036854775809") ≡ None
too_small = refl

greatest_number : number_of (codes "9223372036854775807") ≡ Some (pos 9223372036854775807)
greatest_number = refl

too_great : number_of (codes "9223372036854775808") ≡ None
too_great = refl

-- ---- answers

abbrev standing : Tree → Tables → Standing
standing tree tables = record { program = record { tree = tree; revisions = []; counter = 0 }; lines = []; tables = tables; edits = 0 }

abbrev three_lines : Standing
three_lines = standing lines (sales (row 1 2 5 ∷ row 2 3 7 ∷ row 3 1 100 ∷ []))

plain_run : (reads : TextReader) (checks : Checker) → answers_text reads checks (standing first_program []) (codes "hello\n# x\n\nrun\n") ≡ codes "refused E19 1\nrun 1\nresult 3\ntotal 12\n"
unfolding elide from_scratch needing int_wrap digits
plain_run reads checks = refl

faulty_run : (reads : TextReader) (checks : Checker) → answers_text reads checks (standing faulty (sales [])) (codes "run") ≡ codes "run 1\nfault divide by zero in b at 1\n"
unfolding elide from_scratch needing int_wrap digits
faulty_run reads checks = refl

put_and_run : (reads : TextReader) (checks : Checker) → answers_text reads checks three_lines (codes "run\nput sales 2 4 7\nrun\ndel sales 1\nrun\n") ≡ codes "run 1\nresult 131\ntotal 131\ntop 100 3\nok\nrun 2\nresult 138\ntotal 138\ntop 100 3\nok\nrun 3\nfault missing row in line at 1\n"
unfolding all_turns elide from_scratch needing int_wrap digits
put_and_run reads checks = refl

abbrev waiting : List ℕ
waiting = codes "proc main() { x = spawn line(1); return x; }\n"

-- one text is read, and what it gives breaks a rule; any other is refused at its second line
abbrev reads_waiting : TextReader
reads_waiting text before = cond (bytes_eq text waiting) (Ok before) (Err 2)

abbrev waits : Violation
waits = record { rule = 3; holder = n_main; line = 1 }

abbrev checks_waiting : Checker
checks_waiting tree ls tables = Some waits

refused_edits : answers_text reads_waiting checks_waiting three_lines (codes "put stock 1 2\nput sales 1 2\nput sales 2147483648 1 1\ndel sales 9\nhello\ndefine\n" ++ waiting ++ codes "end\ndefine\nx\nend\nrun\n") ≡ codes "refused E4\nrefused E5\nrefused E6\nrefused E7\nrefused E19 5\nrefused E9 C3 main 1\nrefused E8 2\nrun 1\nresult 131\ntotal 131\ntop 100 3\n"
unfolding all_turns elide from_scratch needing int_wrap digits
refused_edits = refl

-- ---- defines

abbrev two : Revised
two = record { tree = proc false n_a 0 [] end ∷ proc false n_main 0 [] end ∷ []; revisions = (n_a, 0) ∷ (n_main, 1) ∷ []; counter = 2 }

-- main is another, b is new, a is as it was
abbrev three : Tree
three = proc false n_main 0 [] (step 1 sync end) ∷ proc false n_b 0 [] end ∷ proc false n_a 0 [] end ∷ []

numbers_after : revised two three 2 ≡ ((n_main, 2) ∷ (n_b, 3) ∷ (n_a, 0) ∷ [], 4)
numbers_after = refl

abbrev standing_of : Revised → List Lined → Standing
standing_of program ls = record { program = program; lines = ls; tables = []; edits = 5 }

abbrev three_there : List Lined
three_there = record { line = 1; statements = (1, 2) ∷ [] } ∷ record { line = 4; statements = [] } ∷ record { line = 5; statements = [] } ∷ []

abbrev reads_three : TextReader
reads_three text before = Ok (three, three_there)

abbrev checks_none : Checker
checks_none tree ls tables = None

define_changes : after_define reads_three checks_none (standing_of two []) [] ≡ Ok (standing_of (record { tree = three; revisions = (n_main, 2) ∷ (n_b, 3) ∷ (n_a, 0) ∷ []; counter = 4 }) three_there)
define_changes = refl

define_unread : after_define reads_waiting checks_none (standing_of two []) [] ≡ Err (BadText 2)
define_unread = refl

define_broken : after_define reads_three checks_waiting (standing_of two []) [] ≡ Err (Broken waits)
define_broken = refl

define_exhausted : after_define reads_three checks_none (standing_of (record { tree = []; revisions = []; counter = most }) []) [] ≡ Err Exhausted
define_exhausted = refl
