use Rattle.std.proofs.Common.{◌≡◌, ◌≤◌, ◌∙◌, ap, sym, false, true, codes}
use Rattle.meaning.specs.Script.{are_only, words}
use Rattle.script_lines.specs.Lines.{IsLine, text_of}
use Rattle.script_lines.specs.Defines.{define_going}
use Rattle.script_lines.proofs.DefineLines.{going_on, further_on, weaker, at_end}
use Rattle.script_lines.proofs.defines.end_of_define.Goals as goal

pub returns-then-are_only-clause-found : goal.returns-then-are_only-clause-found
returns-then-are_only-clause-found c begun =
    let is_line : IsLine c.args.script.now c.in-Some.line = rw c.in-Some.is at c.loop-next.invariant.line in
    let is_end : are_only (codes "end") (words (text_of c.args.script.now c.in-Some.line)) ≡ true =
    rw (← c.in_ok-words.ensures, ← c.deref.ensures.value) (sym c.are_only.ensures ∙ c.if-are_only.true) in
    c.loop-next.invariant.going begun ∙ ap (define_going c.args.script.now c.args.first.begin begun) c.in-Some.is
    ∙ at_end c.args.script.now c.args.first.begin begun c.in-Some.line is_line is_end

pub loop-next-preserved : goal.loop-next-preserved
loop-next-preserved c =
    let is_line : IsLine c.args.script.now c.in-Some.line = rw c.in-Some.is at c.loop-next.invariant.line in
    let further : c.args.first.begin ≤ c.in-Some.line.begin = rw c.in-Some.is at c.loop-next.invariant.further in
    let other : are_only (codes "end") (words (text_of c.args.script.now c.in-Some.line)) ≡ false =
    rw (← c.in_ok-words.ensures, ← c.deref.ensures.value) (sym c.are_only.ensures ∙ c.if-are_only.false) in
    record {
      line = c.next_line-next.ensures.line;
      further = weaker c.args.first.begin c.next_line-next.result (further_on c.args.script.now c.args.first.begin c.in-Some.line c.next_line-next.result is_line further c.next_line-next.ensures.begin);
      going = λ begun.
          c.loop-next.invariant.going begun ∙ ap (define_going c.args.script.now c.args.first.begin begun) c.in-Some.is
          ∙ going_on c.args.script.now c.args.first.begin begun c.in-Some.line c.next_line-next.result is_line further c.next_line-next.ensures.rest c.next_line-next.ensures.number c.next_line-next.ensures.begin c.next_line-next.ensures.text other;
    }
