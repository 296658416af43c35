use Rattle.procedure_parser.proofs.kinds.+more_cells.Given as goal

abbrev pub decreases-more_cells : goal.decreases-more_cells
decreases-more_cells l = l.left
