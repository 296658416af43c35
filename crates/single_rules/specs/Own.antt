-- What a statement changes of what is known, its blocks aside.
use Rattle.std.specs.Prelude.{false}
use Rattle.meaning.specs.Tree.{Deed, bind, enter, read, sync, update, choose, loop, give}
use Rattle.linked_program.specs.declared.knowledge.Moment.{Moment}
use Rattle.linked_program.specs.Scope.{Scope, bound, entered, has_read, passed, looped}

abbrev pub after_own : Moment → Scope → Deed → Scope
after_own now scope (bind x e) = bound now false scope x
after_own now scope (enter x way f es) = entered now scope x way
after_own now scope (read x r) = has_read now (bound now false scope x)
after_own now scope sync = passed now scope
after_own now scope (update r es) = scope
after_own now scope (choose e a b) = scope
after_own now scope (loop x e f grain g es) = looped scope x
after_own now scope (give e) = scope
