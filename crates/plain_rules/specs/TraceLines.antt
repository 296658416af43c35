-- What lines of traces and of counts have in them.
use Rattle.std.specs.Prelude.{ℕ, List, [], ◌∷◌, ◌++◌, flat_map, codes}
use Rattle.std.specs.Fmt.{decimal}

-- a number of a place, behind another
abbrev pub dotted : ℕ → List ℕ
dotted n = 46 ∷ decimal n

abbrev pub place_text : List ℕ → List ℕ
place_text [] = codes "root"
place_text (n ∷ place) = decimal n ++ flat_map dotted place

-- the line of what a worker did with two places
abbrev pub places_text : List ℕ → List ℕ → List ℕ → ℕ → List ℕ
places_text word left right worker =
    word ++ codes " " ++ place_text left ++ codes " " ++ place_text right ++ codes " by " ++ decimal worker ++ codes "\n"

-- memo instances: those that were executed, those that a record answered, those that went without one
abbrev pub executed_text : ℕ → ℕ → ℕ → List ℕ
executed_text executed reused unrecorded =
    codes " executed " ++ decimal executed ++ codes " reused " ++ decimal reused ++ codes " unrecorded " ++ decimal unrecorded
