-- What the definitions give on small programs, by computation.
use Rattle.std.specs.Prelude.{◌≡◌, ℕ, ◌+◌, ◌*◌, ℤ, pos, negsuc, Bool, true, false, List, [], ◌∷◌, Some, None, Ok, Err}
use Rattle.std.proofs.Common.{refl}
use Rattle.std.specs.Int.{int_wrap}
use Rattle.meaning.specs.declared.tree.Operator.TheVariants as o
use Rattle.meaning.specs.declared.tree.Way.TheVariants.{Call, Spawn}
use Rattle.monoid_laws.specs.declared.Kind.{Kind}
use Rattle.monoid_laws.specs.declared.Kind.TheVariants as k
use Rattle.meaning.specs.Tree.{Name, Term, number, name, cell, has, limit, sum, binary, bind, enter, read, sync, update, choose, loop, give, Body, end, step, Decl, reducer, procedure, Tree}
use Rattle.meaning.specs.declared.FaultKind.TheVariants.{DivideByZero, MissingRow, RangeTooLong, TooDeep}
use Rattle.meaning.specs.Tables.{Tables}
use Rattle.monoid_laws.specs.Worth as w
use Rattle.meaning.specs.Outcome.{Log, Fault, Enters, Updates, CellHeld}
use Rattle.meaning.specs.Outcome.{Begins, Syncs, Leaves, Faults, Spawns}
use Rattle.meaning.specs.Strands.{replayed, Split, End, Stall, Fold, Finish, Finished as Done}
use Rattle.meaning.specs.Trail.{trail_at, runner, halvings}
use Rattle.meaning.specs.Records.{Kept, Revised, needing, needed, executed, reused}
use Rattle.meaning.specs.Elision.{all_turns, elide, from_scratch, Finished, Faulted}

abbrev pub n_main : Name
n_main = (109 ∷ 97 ∷ 105 ∷ 110 ∷ [])

abbrev n_leaf : Name
n_leaf = (108 ∷ 101 ∷ 97 ∷ 102 ∷ [])

abbrev n_total : Name
n_total = (116 ∷ 111 ∷ 116 ∷ 97 ∷ 108 ∷ [])

abbrev pub n_seen : Name
n_seen = (115 ∷ 101 ∷ 101 ∷ 110 ∷ [])

abbrev pub n_line : Name
n_line = (108 ∷ 105 ∷ 110 ∷ 101 ∷ [])

abbrev pub n_share : Name
n_share = (115 ∷ 104 ∷ 97 ∷ 114 ∷ 101 ∷ [])

abbrev pub n_sales : Name
n_sales = (115 ∷ 97 ∷ 108 ∷ 101 ∷ 115 ∷ [])

abbrev pub n_qty : Name
n_qty = (113 ∷ 116 ∷ 121 ∷ [])

abbrev pub n_price : Name
n_price = (112 ∷ 114 ∷ 105 ∷ 99 ∷ 101 ∷ [])

abbrev n_top : Name
n_top = (116 ∷ 111 ∷ 112 ∷ [])

abbrev pub n_steps : Name
n_steps = (115 ∷ 116 ∷ 101 ∷ 112 ∷ 115 ∷ [])

abbrev pub n_down : Name
n_down = (100 ∷ 111 ∷ 119 ∷ 110 ∷ [])

abbrev pub n_f : Name
n_f = (102 ∷ [])

abbrev pub n_one : Name
n_one = (111 ∷ 110 ∷ 101 ∷ [])

abbrev pub n_n : Name
n_n = (110 ∷ [])

abbrev n_least : Name
n_least = (108 ∷ 101 ∷ 97 ∷ 115 ∷ 116 ∷ [])

abbrev pub n_a : Name
n_a = (97 ∷ [])

abbrev pub n_b : Name
n_b = (98 ∷ [])

abbrev pub n_c : Name
n_c = (99 ∷ [])

abbrev pub proc : Bool → Name → ℕ → List Name → Body → Decl
proc m f k ns b = procedure (record { called = f; memo = m; parameters = k; names = ns; body = b })

abbrev pub red : Name → Kind → Decl
red r kind = reducer (record { called = r; kind = kind; initial = [] })

abbrev plus : Term → Term → Term
plus a b = binary o.Add a b

abbrev pub num : ℕ → Term
num n = number (pos n)

-- proc leaf(v) { update total v; return v; }
abbrev leaf : Name → Decl
leaf r = proc false n_leaf 1 (n_a ∷ []) (step 1 (update r (name 0 ∷ [])) (step 2 (give (name 0)) end))

-- proc main() { x = spawn leaf(1); y = spawn leaf(2); update total 9; sync; return x + y; }
abbrev main0 : Name → Decl
main0 r = proc false n_main 0 (n_a ∷ n_b ∷ []) (step 1 (enter (Some 0) Spawn n_leaf (num 1 ∷ [])) (step 2 (enter (Some 1) Spawn n_leaf (num 2 ∷ [])) (step 3 (update r (num 9 ∷ [])) (step 4 sync (step 5 (give (plus (name 0) (name 1))) end)))))

abbrev pub first_program : Tree
first_program = red n_total k.Add ∷ leaf n_total ∷ main0 n_total ∷ []

abbrev pub first_list : Tree
first_list = red n_seen k.List ∷ leaf n_seen ∷ main0 n_seen ∷ []

first_run : from_scratch first_program [] ≡ Finished (pos 3) (w.number (pos 12) ∷ [])
unfolding elide from_scratch needing int_wrap
first_run = refl

one_worker_pops : from_scratch first_list [] ≡ Finished (pos 3) (w.items (pos 1 ∷ pos 2 ∷ pos 9 ∷ []) ∷ [])
unfolding elide from_scratch needing int_wrap
one_worker_pops = refl

affine_fold : from_scratch (red n_f k.Affine ∷ proc false n_one 2 (n_a ∷ n_b ∷ []) (step 1 (update n_f (name 0 ∷ name 1 ∷ [])) end) ∷ proc false n_main 0 [] (step 1 (enter None Spawn n_one (num 2 ∷ num 1 ∷ [])) (step 2 (update n_f (num 3 ∷ num 4 ∷ [])) (step 3 sync (step 4 (give (num 0)) end)))) ∷ []) [] ≡ Finished (pos 0) (w.line (pos 6) (pos 7) ∷ [])
unfolding elide from_scratch needing int_wrap
affine_fold = refl

identities_shown : from_scratch (red n_least k.Min ∷ red n_seen k.List ∷ red n_top k.Argmax ∷ red n_f k.Affine ∷ proc false n_main 0 [] (step 1 (give (num 0)) end) ∷ []) [] ≡ Finished (pos 0) (w.number (pos 9223372036854775807) ∷ w.items [] ∷ w.best None ∷ w.line (pos 1) (pos 0) ∷ [])
unfolding elide from_scratch needing int_wrap
identities_shown = refl

-- reducer total : add from 5, 7; reducer top : argmax from 4, 1, 6, 2;
initial_values_shown : from_scratch (reducer (record { called = n_total; kind = k.Add; initial = pos 5 ∷ pos 7 ∷ [] }) ∷ reducer (record { called = n_top; kind = k.Argmax; initial = pos 4 ∷ pos 1 ∷ pos 6 ∷ pos 2 ∷ [] }) ∷ proc false n_main 0 [] (step 1 (update n_total (num 1 ∷ [])) (step 2 (give (num 0)) end)) ∷ []) [] ≡ Finished (pos 0) (w.number (pos 13) ∷ w.best (Some (pos 6, pos 2)) ∷ [])
unfolding elide from_scratch needing int_wrap
initial_values_shown = refl

wrapping_fold : from_scratch (red n_total k.Add ∷ proc false n_one 1 (n_a ∷ []) (step 1 (update n_total (name 0 ∷ [])) end) ∷ proc false n_main 0 [] (step 1 (enter None Spawn n_one (num 9223372036854775807 ∷ [])) (step 2 (update n_total (num 1 ∷ [])) (step 3 sync (step 4 (give (num 0)) end)))) ∷ []) [] ≡ Finished (pos 0) (w.number (negsuc 9223372036854775807) ∷ [])
unfolding elide from_scratch needing int_wrap
wrapping_fold = refl

abbrev pub sales : List (ℤ × List ℤ) → Tables
sales rows = record { called = n_sales; columns = n_qty ∷ n_price ∷ []; rows = rows } ∷ []

-- memo proc line(r) { v = sales[r].qty * sales[r].price; update total v; update top v, r; return v; }
-- proc main() { cilk_for r in 1 .. limit sales : line(r); t = read total; return t; }
abbrev pub lines : Tree
lines = red n_total k.Add ∷ red n_top k.Argmax ∷ proc true n_line 1 (n_a ∷ n_b ∷ []) (step 1 (bind 1 (binary o.Multiply (cell n_sales (name 0) n_qty) (cell n_sales (name 0) n_price))) (step 2 (update n_total (name 1 ∷ [])) (step 3 (update n_top (name 1 ∷ name 0 ∷ [])) (step 4 (give (name 1)) end)))) ∷ proc false n_main 0 (n_a ∷ n_b ∷ []) (step 1 (loop 0 (num 1) (limit n_sales) 1 n_line (name 0 ∷ [])) (step 2 (read 1 n_total) (step 3 (give (name 1)) end))) ∷ []

abbrev pub row : ℕ → ℕ → ℕ → ℤ × List ℤ
row n a b = (pos n, pos a ∷ pos b ∷ [])

rerun_one_line : from_scratch lines (sales (row 1 2 5 ∷ row 2 3 7 ∷ row 3 1 100 ∷ [])) ≡ Finished (pos 131) (w.number (pos 131) ∷ w.best (Some (pos 100, pos 3)) ∷ [])
unfolding all_turns elide from_scratch needing int_wrap
rerun_one_line = refl

rerun_one_line-edited : from_scratch lines (sales (row 1 2 5 ∷ row 2 4 7 ∷ row 3 1 100 ∷ [])) ≡ Finished (pos 138) (w.number (pos 138) ∷ w.best (Some (pos 100, pos 3)) ∷ [])
unfolding all_turns elide from_scratch needing int_wrap
rerun_one_line-edited = refl

absent_row : from_scratch lines (sales (row 1 2 5 ∷ row 2 3 7 ∷ row 3 1 100 ∷ row 5 1 1 ∷ [])) ≡ Faulted (record { kind = MissingRow; site = record { procedure = n_line; statement = 1 } })
unfolding all_turns elide from_scratch needing int_wrap
absent_row = refl

-- memo proc share(r) { v = sales[r].qty * 100 / sum sales.qty; update total v; return v; }
-- proc main() { cilk_for r in 1 .. limit sales : share(r); t = read total; return t; }
abbrev pub shares : Tree
shares = red n_total k.Add ∷ proc true n_share 1 (n_a ∷ n_b ∷ []) (step 1 (bind 1 (binary o.Divide (binary o.Multiply (cell n_sales (name 0) n_qty) (num 100)) (sum n_sales n_qty))) (step 2 (update n_total (name 1 ∷ [])) (step 3 (give (name 1)) end))) ∷ proc false n_main 0 (n_a ∷ n_b ∷ []) (step 1 (loop 0 (num 1) (limit n_sales) 1 n_share (name 0 ∷ [])) (step 2 (read 1 n_total) (step 3 (give (name 1)) end))) ∷ []

shares_of_a_sum : from_scratch shares (sales (row 1 2 5 ∷ row 2 3 7 ∷ row 3 1 100 ∷ [])) ≡ Finished (pos 99) (w.number (pos 99) ∷ [])
unfolding all_turns elide from_scratch needing int_wrap
shares_of_a_sum = refl

-- proc main() { return sum sales.qty; }
abbrev summed : Tree
summed = proc false n_main 0 [] (step 1 (give (sum n_sales n_qty)) end) ∷ []

sum_of_no_rows : from_scratch summed (sales []) ≡ Finished (pos 0) []
unfolding elide from_scratch needing int_wrap
sum_of_no_rows = refl

sum_wraps : from_scratch summed (sales (row 1 9223372036854775807 5 ∷ row 2 1 7 ∷ [])) ≡ Finished (negsuc 9223372036854775807) []
unfolding elide from_scratch needing int_wrap
sum_wraps = refl

-- memo proc down(n) { update steps 1; if n > 0 { call down(n - 1); } return n; }
abbrev pub down : Decl
down = proc true n_down 1 (n_a ∷ []) (step 1 (update n_steps (num 1 ∷ [])) (step 2 (choose (binary o.Greater (name 0) (num 0)) (step 3 (enter None Call n_down (binary o.Subtract (name 0) (num 1) ∷ [])) end) end) (step 4 (give (name 0)) end)))

abbrev pub calls : Name → Name → Term → Decl
calls f g e = proc false f 0 (n_a ∷ []) (step 1 (enter (Some 0) Call g (e ∷ [])) (step 2 (give (name 0)) end))

abbrev pub calls0 : Name → Name → Decl
calls0 f g = proc false f 0 (n_a ∷ []) (step 1 (enter (Some 0) Call g []) (step 2 (give (name 0)) end))

heights : from_scratch (red n_steps k.Add ∷ down ∷ calls n_main n_down (num 252) ∷ []) [] ≡ Finished (pos 252) (w.number (pos 253) ∷ [])
unfolding elide from_scratch needing int_wrap
heights = refl

heights-deep : from_scratch (red n_steps k.Add ∷ down ∷ calls0 n_main n_a ∷ calls0 n_a n_b ∷ calls0 n_b n_c ∷ calls n_c n_down (num 252) ∷ []) [] ≡ Faulted (record { kind = TooDeep; site = record { procedure = n_down; statement = 3 } })
unfolding elide from_scratch needing int_wrap
heights-deep = refl

loop_ranges : from_scratch (red n_n k.Add ∷ proc false n_one 1 (n_a ∷ []) (step 1 (update n_n (num 1 ∷ [])) end) ∷ proc false n_main 0 (n_a ∷ n_b ∷ []) (step 1 (loop 0 (num 3) (num 3) 1 n_one (name 0 ∷ [])) (step 2 (loop 1 (num 5) (num 2) 1 n_one (name 1 ∷ [])) (step 3 (give (num 0)) end))) ∷ []) [] ≡ Finished (pos 0) (w.number (pos 0) ∷ [])
unfolding all_turns elide from_scratch needing int_wrap
loop_ranges = refl

loop_ranges-long : from_scratch (red n_n k.Add ∷ proc false n_one 1 (n_a ∷ []) (step 1 (update n_n (num 1 ∷ [])) end) ∷ proc false n_main 0 (n_a ∷ n_b ∷ []) (step 1 (loop 0 (num 0) (num 1048577) 1 n_one (name 0 ∷ [])) end) ∷ []) [] ≡ Faulted (record { kind = RangeTooLong; site = record { procedure = n_main; statement = 1 } })
unfolding all_turns elide from_scratch needing int_wrap
loop_ranges-long = refl

-- a range that no number of 64 bits measures
loop_ranges-widest : from_scratch (red n_n k.Add ∷ proc false n_one 1 (n_a ∷ []) (step 1 (update n_n (num 1 ∷ [])) end) ∷ proc false n_main 0 (n_a ∷ []) (step 1 (loop 0 (binary o.Subtract (num 0) (num 9223372036854775807)) (num 9223372036854775807) 1 n_one (name 0 ∷ [])) end) ∷ []) [] ≡ Faulted (record { kind = RangeTooLong; site = record { procedure = n_main; statement = 1 } })
unfolding all_turns elide from_scratch needing int_wrap
loop_ranges-widest = refl

-- a history with two steals
two_steals-history : replayed (Split [] (1 ∷ []) 1 ∷ Split (1 ∷ []) (2 ∷ []) 2 ∷ Stall (2 ∷ []) ∷ End (1 ∷ []) ∷ Fold (1 ∷ []) (2 ∷ []) 2 ∷ Stall (1 ∷ []) ∷ End [] ∷ Fold [] (1 ∷ []) 0 ∷ Finish [] ∷ []) ≡ Some (record { lines = ([], Done) ∷ []; split_off = (2 ∷ []) ∷ (1 ∷ []) ∷ [] })
unfolding elide from_scratch needing int_wrap
two_steals-history = refl

-- proc bad(n) { return 1 / n; } proc main() { spawn bad(0); x = sales[9].qty; sync; return x; }
abbrev pub faulty : Tree
faulty = proc false n_b 1 (n_a ∷ []) (step 1 (give (binary o.Divide (num 1) (name 0))) end) ∷ proc false n_main 0 (n_a ∷ []) (step 1 (enter None Spawn n_b (num 0 ∷ [])) (step 2 (bind 0 (cell n_sales (num 9) n_qty)) (step 3 sync (step 4 (give (name 0)) end)))) ∷ []

first_fault_serial : from_scratch faulty (sales []) ≡ Faulted (record { kind = DivideByZero; site = record { procedure = n_b; statement = 1 } })
unfolding elide from_scratch needing int_wrap
first_fault_serial = refl

first_run-trail : trail_at first_program [] [] None ≡ Begins [] 1 ∷ Enters n_main [] 1 ∷ Spawns (1 ∷ []) ∷ Begins (1 ∷ []) 2 ∷ Enters n_leaf (pos 1 ∷ []) 2 ∷ Updates 0 k.Add (w.number (pos 1)) ∷ Syncs (1 ∷ []) ∷ Leaves (1 ∷ []) (Ok (pos 1)) ∷ Spawns (2 ∷ []) ∷ Begins (2 ∷ []) 2 ∷ Enters n_leaf (pos 2 ∷ []) 2 ∷ Updates 0 k.Add (w.number (pos 2)) ∷ Syncs (2 ∷ []) ∷ Leaves (2 ∷ []) (Ok (pos 2)) ∷ Updates 0 k.Add (w.number (pos 9)) ∷ Syncs [] ∷ Syncs [] ∷ Leaves [] (Ok (pos 3)) ∷ []
unfolding runner elide from_scratch needing int_wrap
first_run-trail = refl

abbrev bad : Fault
bad = record { kind = DivideByZero; site = record { procedure = n_b; statement = 1 } }

first_fault_serial-trail : trail_at faulty (sales []) [] None ≡ Begins [] 1 ∷ Enters n_main [] 1 ∷ Spawns (1 ∷ []) ∷ Begins (1 ∷ []) 2 ∷ Enters n_b (pos 0 ∷ []) 2 ∷ Faults bad ∷ Leaves (1 ∷ []) (Err bad) ∷ Faults (record { kind = MissingRow; site = record { procedure = n_main; statement = 2 } }) ∷ Leaves [] (Err bad) ∷ []
unfolding runner elide from_scratch needing int_wrap
first_fault_serial-trail = refl

abbrev kept_line : ℕ → ℕ → ℕ → Kept
kept_line r q c = record { of = n_line; args = pos r ∷ []; value = pos (r + 0); contribution = w.number (pos (q * c)) ∷ w.best (Some (pos (q * c), pos r)) ∷ []; read = CellHeld n_sales (pos r) n_qty (pos q) ∷ CellHeld n_sales (pos r) n_price (pos c) ∷ []; revisions = (n_line, 0) ∷ []; height = 1 }

abbrev revised2 : Revised
revised2 = record { tree = lines; revisions = (n_line, 0) ∷ (n_main, 1) ∷ []; counter = 2 }

abbrev log10 : Log
log10 = needed revised2 (sales (row 1 2 5 ∷ row 2 4 7 ∷ row 3 1 100 ∷ [])) (kept_line 1 2 5 ∷ kept_line 2 3 7 ∷ kept_line 3 1 100 ∷ [])

rerun_one_line-executed : executed lines log10 ≡ (n_line, pos 2 ∷ []) ∷ []
unfolding all_turns elide from_scratch needing int_wrap
rerun_one_line-executed = refl

rerun_one_line-reused : reused log10 ≡ (n_line, pos 1 ∷ []) ∷ (n_line, pos 3 ∷ []) ∷ []
unfolding all_turns elide from_scratch needing int_wrap
rerun_one_line-reused = refl

-- memo proc line(r) { if has sales[r] { v = sales[r].qty * sales[r].price; update total v; } }
-- memo proc all() { cilk_for r in 1 .. limit sales : line(r); }  proc main() { call all(); t = read total; return t; }
abbrev pub n_all : Name
n_all = (97 ∷ 108 ∷ 108 ∷ [])

abbrev pub lines_nested : Tree
lines_nested = red n_total k.Add ∷ proc true n_line 1 (n_a ∷ n_b ∷ []) (step 1 (choose (has n_sales (name 0)) (step 2 (bind 1 (binary o.Multiply (cell n_sales (name 0) n_qty) (cell n_sales (name 0) n_price))) (step 3 (update n_total (name 1 ∷ [])) end)) end) end) ∷ proc true n_all 0 (n_a ∷ []) (step 1 (loop 0 (num 1) (limit n_sales) 1 n_line (name 0 ∷ [])) end) ∷ proc false n_main 0 (n_a ∷ []) (step 1 (enter None Call n_all []) (step 2 (read 0 n_total) (step 3 (give (name 0)) end))) ∷ []

nested_memo_reads : from_scratch lines_nested (sales (row 1 2 5 ∷ row 2 3 7 ∷ row 3 1 100 ∷ row 5 1 1 ∷ [])) ≡ Finished (pos 132) (w.number (pos 132) ∷ [])
unfolding all_turns elide from_scratch needing int_wrap
nested_memo_reads = refl

-- a loop of three iterations, in halves
halved_loop-trail : trail_at (proc false n_one 1 (n_a ∷ []) end ∷ proc false n_main 0 (n_a ∷ []) (step 1 (loop 0 (num 0) (num 3) 1 n_one (name 0 ∷ [])) end) ∷ []) [] [] None ≡ Begins [] 1 ∷ Enters n_main [] 1 ∷ Begins (1 ∷ []) 1 ∷ Spawns (1 ∷ 1 ∷ []) ∷ Begins (1 ∷ 1 ∷ []) 1 ∷ Begins (1 ∷ 1 ∷ 1 ∷ []) 2 ∷ Enters n_one (pos 0 ∷ []) 2 ∷ Syncs (1 ∷ 1 ∷ 1 ∷ []) ∷ Leaves (1 ∷ 1 ∷ 1 ∷ []) (Ok (pos 0)) ∷ Syncs (1 ∷ 1 ∷ []) ∷ Leaves (1 ∷ 1 ∷ []) (Ok (pos 0)) ∷ Begins (1 ∷ 2 ∷ []) 1 ∷ Spawns (1 ∷ 2 ∷ 1 ∷ []) ∷ Begins (1 ∷ 2 ∷ 1 ∷ []) 1 ∷ Begins (1 ∷ 2 ∷ 1 ∷ 1 ∷ []) 2 ∷ Enters n_one (pos 1 ∷ []) 2 ∷ Syncs (1 ∷ 2 ∷ 1 ∷ 1 ∷ []) ∷ Leaves (1 ∷ 2 ∷ 1 ∷ 1 ∷ []) (Ok (pos 0)) ∷ Syncs (1 ∷ 2 ∷ 1 ∷ []) ∷ Leaves (1 ∷ 2 ∷ 1 ∷ []) (Ok (pos 0)) ∷ Begins (1 ∷ 2 ∷ 2 ∷ []) 1 ∷ Begins (1 ∷ 2 ∷ 2 ∷ 1 ∷ []) 2 ∷ Enters n_one (pos 2 ∷ []) 2 ∷ Syncs (1 ∷ 2 ∷ 2 ∷ 1 ∷ []) ∷ Leaves (1 ∷ 2 ∷ 2 ∷ 1 ∷ []) (Ok (pos 0)) ∷ Syncs (1 ∷ 2 ∷ 2 ∷ []) ∷ Leaves (1 ∷ 2 ∷ 2 ∷ []) (Ok (pos 0)) ∷ Syncs (1 ∷ 2 ∷ []) ∷ Leaves (1 ∷ 2 ∷ []) (Ok (pos 0)) ∷ Syncs (1 ∷ []) ∷ Leaves (1 ∷ []) (Ok (pos 0)) ∷ Syncs [] ∷ Leaves [] (Ok (pos 0)) ∷ []
unfolding runner halvings elide from_scratch needing int_wrap
halved_loop-trail = refl
