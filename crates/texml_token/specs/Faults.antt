-- The names of the faults of a text, by their numbers.
use Rattle.std.specs.Prelude.{ℕ, List, [], ◌∷◌, codes, slice_index_or}

-- by number from 1 on
abbrev pub fault_names : List (List ℕ)
fault_names =
    []
    ∷ codes "Undefined"
    ∷ codes "ExtraBrace"
    ∷ codes "RunawayPar"
    ∷ codes "FileEnded"
    ∷ codes "Mismatch"
    ∷ codes "MissingNumber"
    ∷ codes "NumberTooBig"
    ∷ codes "DimensionTooLarge"
    ∷ codes "IllegalUnit"
    ∷ codes "Overflow"
    ∷ codes "BadCode"
    ∷ codes "ExtraCond"
    ∷ codes "MissingEndcsname"
    ∷ codes "BadParameter"
    ∷ codes "InvalidChar"
    ∷ codes "GroupMismatch"
    ∷ codes "NoGroup"
    ∷ codes "Misplaced"
    ∷ codes "MissingFile"
    ∷ codes "NotUtf8"
    ∷ codes "BadPrefix"
    ∷ codes "MissingBrace"
    ∷ codes "NameTaken"
    ∷ codes "EnvironmentMismatch"
    ∷ codes "Depth"
    ∷ []

-- which is empty where no fault has this number
abbrev pub fault_name : ℕ → List ℕ
fault_name code = slice_index_or fault_names code []
