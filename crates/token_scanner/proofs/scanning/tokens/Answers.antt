use Rattle.std.proofs.Common.{◌≡◌, ◌++◌, ◌∷◌, [], sym, ◌∙◌, arith, length-drop, take, drop, length, ◌-◌}
use Rattle.std.proofs.lemmas.List.{map_push}
use Rattle.token_scanner.specs.Words.{words, word, placed}
use Rattle.token_scanner.specs.Scanning.{tokens_of}
use Rattle.token_scanner.proofs.Scan.{at_end, over, new_line, a_space, a_comment, a_token, take_all}
use Rattle.token_scanner.proofs.scanning.tokens.Goals as goal

pub returns : goal.returns
returns c = over (words c.loop.out.items) c.args.text.now c.loop.counter c.loop.at c.loop.line (tokens_of c.args.text.now) c.loop.invariant.whole c.loop-test.false

pub returns-then-at-text : goal.returns-then-at-text
returns-then-at-text c = at_end (words c.loop.out.items) c.args.text.now c.loop.counter c.loop.at c.loop.line (tokens_of c.args.text.now) c.loop.invariant.whole (omega arith)

pub loop-preserved-then-b-eq10 : goal.loop-preserved-then-b-eq10
loop-preserved-then-b-eq10 c = record {
  within = omega (arith, c.loop.invariant.within);
  lines = omega (arith, c.loop.invariant.lines);
  whole = new_line (words c.loop.out.items) c.args.text.now c.loop.counter c.loop.at c.loop.line (tokens_of c.args.text.now) c.loop.invariant.whole c.loop-test.true (omega (arith, c.loop.invariant.within)) c.if-b-eq10.true;
}

pub loop-preserved-then-is_space : goal.loop-preserved-then-is_space
loop-preserved-then-is_space c = record {
  within = omega (arith, c.loop.invariant.within);
  lines = omega (arith, c.loop.invariant.lines);
  whole = a_space (words c.loop.out.items) c.args.text.now c.loop.counter c.loop.at c.loop.line (tokens_of c.args.text.now) c.loop.invariant.whole c.loop-test.true (omega (arith, c.loop.invariant.within)) c.if-b-eq10.false (sym c.is_space.ensures ∙ c.if-is_space.true);
}

pub loop-preserved : goal.loop-preserved
loop-preserved c =
    let full : take (length c.args.text.now - c.loop.at) (drop c.loop.at c.args.text.now) ≡ drop c.loop.at c.args.text.now = take_all _ _ (omega (arith, length-drop c.loop.at c.args.text.now)) in
    let t = c.token_at-taken.result in
    let e : words c.push.new.self.items ≡ words c.loop.out.items ++ (word t.0, c.loop.line) ∷ [] = rw c.in_ok-push.ensures.items (map_push placed c.loop.out.items (record { token = t.0; line = c.loop.line })) in
    record {
      within = omega (arith, c.loop.invariant.within, c.token_at-taken.ensures.within, length-drop c.loop.at c.args.text.now);
      lines = omega (arith, c.loop.invariant.lines);
      whole = rw e (a_token (words c.loop.out.items) c.args.text.now c.loop.counter c.loop.at c.loop.line (tokens_of c.args.text.now) c.loop.invariant.whole (word t.0) t.1 c.loop-test.true (omega (arith, c.loop.invariant.within)) c.if-b-eq10.false (sym c.is_space.ensures ∙ c.if-is_space.false) c.if-b-eq35.false (rw full at c.token_at-taken.ensures.token));
    }

pub loop-preserved-then-b-eq35 : goal.loop-preserved-then-b-eq35
loop-preserved-then-b-eq35 c =
    let full : take (length c.args.text.now - c.loop.at) (drop c.loop.at c.args.text.now) ≡ drop c.loop.at c.args.text.now = take_all _ _ (omega (arith, length-drop c.loop.at c.args.text.now)) in
    record {
      within = omega (arith, c.loop.invariant.within, c.front_len-at.ensures.within, length-drop c.loop.at c.args.text.now);
      lines = omega (arith, c.loop.invariant.lines);
      whole = a_comment (words c.loop.out.items) c.args.text.now c.loop.counter c.loop.at c.loop.line (tokens_of c.args.text.now) c.loop.invariant.whole c.front_len-at.result c.loop-test.true (omega (arith, c.loop.invariant.within)) c.if-b-eq10.false (sym c.is_space.ensures ∙ c.if-is_space.false) c.if-b-eq35.true (rw full at c.front_len-at.ensures.exact);
    }
