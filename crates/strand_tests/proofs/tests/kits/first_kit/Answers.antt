use Rattle.strand_tests.proofs.tests.kits.first_kit.Goals as goal

pub returns-clause-kinds : goal.returns-clause-kinds
returns-clause-kinds g c = c.requires.given c.in-Some.kit c.in-Some.ensures.known

pub returns-clause-given : goal.returns-clause-given
returns-clause-given g c = λ k there. c.requires.given k (c.take.ensures.gives_known k there)
