use Rattle.std.proofs.Common.{◌≡◌, ◌+◌, ◌∙◌, ap, Some, get_or, rules}
use Rattle.meaning.specs.Outcome.{Place}
use Rattle.sync_fold.proofs.Places.{places_of}
use Rattle.sync_fold.proofs.folds.places_at.Goals as goal

pub returns : goal.returns
returns c =
    let left : c.in_ok-left.left.items ≡ c.index-lines-k.result.place.items = search rules in
    let right : c.in_ok-right.right.items ≡ c.index-lines-k-2.result.place.items = search rules in
    let here : c.index-lines-k.result ≡ get_or c.args.lines.now c.args.k c.index-lines-k.result = search rules in
    let next : c.index-lines-k-2.result ≡ get_or c.args.lines.now (c.args.k + 1) c.index-lines-k-2.result = search rules in
    record {
      places = λ d. let p = places_of c.args.lines.now c.args.k c.index-lines-k.result c.index-lines-k-2.result c.requires.within here next d in
          (p.0, ap (λ (q : Place). Some (q, c.in_ok-right.right.items)) left ∙ ap (λ (q : Place). Some (c.index-lines-k.result.place.items, q)) right ∙ p.1);
    }
