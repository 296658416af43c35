use Rattle.run_theory.proofs.News.{paths_news}
use Rattle.run_theory.proofs.paths_make_news.Goals as goal

pub returns : goal.returns
returns c = record { news = paths_news }
