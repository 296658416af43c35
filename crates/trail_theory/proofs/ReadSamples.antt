-- What the rule on reads allows and refuses, on small blocks of main.
use Rattle.std.proofs.Common.{[], ◌∷◌, None, pos, refl, true}
use Rattle.meaning.specs.Tree.{Name, number, name, enter, read, sync, update, choose, loop, give, Body, end, step}
use Rattle.meaning.specs.declared.tree.Way.TheVariants.{Call, Spawn}
use Rattle.trail_theory.specs.ReadsAtEnd.{ReadsAtEnd}

abbrev total : Name
total = 116 ∷ []

abbrev work : Name
work = 119 ∷ []

-- a read, and a return of what it gave
abbrev ending : Body
ending = step 9 (read 0 total) (step 10 (give (name 0)) end)

-- cilk_for ..; t = read total; return t;
after_loop : ReadsAtEnd true (step 1 (loop 0 (number (pos 1)) (number (pos 3)) 1 work (name 0 ∷ [])) ending)
after_loop = (tt, (refl, (tt, tt)))

-- call work(); t = read total; return t;
after_call : ReadsAtEnd true (step 1 (enter None Call work []) ending)
after_call = (tt, (refl, (tt, tt)))

-- spawn work(); sync; t = read total; return t;
after_sync : ReadsAtEnd true (step 1 (enter None Spawn work []) (step 2 sync ending))
after_sync = (tt, (refl, (tt, tt)))

-- t = read total; if t { return 1; } return t;
before_if : ReadsAtEnd true (step 1 (read 0 total) (step 2 (choose (name 0) (step 3 (give (number (pos 1))) end) end) (step 4 (give (name 0)) end)))
before_if = (refl, (((tt, tt), tt), (tt, tt)))

-- spawn work(); t = read total; return t;
no_sync : ReadsAtEnd true (step 1 (enter None Spawn work []) ending) → ⊥
no_sync h = cc

-- if 1 { spawn work(); sync; } t = read total; return t;
inner_sync : ReadsAtEnd true (step 1 (choose (number (pos 1)) (step 2 (enter None Spawn work []) (step 3 sync end)) end) ending) → ⊥
inner_sync h = cc

-- if 1 { t = read total; }
inner_read : ReadsAtEnd true (step 1 (choose (number (pos 1)) (step 2 (read 0 total) end) end) end) → ⊥
inner_read h = h.0.0.0

-- t = read total; update total 1;
updates_after : ReadsAtEnd true (step 1 (read 0 total) (step 2 (update total (number (pos 1) ∷ [])) end)) → ⊥
updates_after h = h.1.0
