-- The definitions computed on small values.
use Rattle.std.proofs.Common.{◌≡◌, ◌-◌, ◌^◌, ℕ, List, [], ◌∷◌, true, false, None, Some, Err, refl, codes, arith}
use Rattle.texml_base.specs.Outside.{inked, in_use, without, KeptUnlessFailed}
use Rattle.texml_base.specs.Rising.{add_up}
use Rattle.texml_base.specs.Counters.{BeginsOne}
use Rattle.texml_base.specs.Stream.{AppendsPiece}
use Rattle.texml_base.specs.declared.files.Trouble.TheVariants.{NoMemory}
use Rattle.texml_base.specs.Opened.{ids_of, held}
use Rattle.texml_base.specs.Place.{place}
use Rattle.texml_base.specs.declared.opened.Opened.{Opened}

pub sum_stops_at_greatest : add_up (2 ^ 64 - 2) 7 ≡ 2 ^ 64 - 1
sum_stops_at_greatest = refl

pub bytes_are_appended : inked (record { bytes = Some (codes "ab"); count = Some 2 }) (codes "c") ≡ record { bytes = Some (codes "abc"); count = Some 3 }
bytes_are_appended = refl

pub untold_stays_untold : inked (record { bytes = None; count = Some 2 }) (codes "c") ≡ record { bytes = None; count = Some 3 }
untold_stays_untold = refl

pub one_id_goes : without 7 (5 ∷ 7 ∷ 9 ∷ []) ≡ 5 ∷ 9 ∷ []
one_id_goes = refl

pub id_is_in_use : in_use (5 ∷ 7 ∷ []) 7 ≡ true
id_is_in_use = refl

pub other_id_is_not : in_use (5 ∷ 7 ∷ []) 6 ≡ false
other_id_is_not = refl

-- two open files, of the ids 1 and 0
abbrev pub opened : List (Opened (List ℕ))
opened = record { id = 1; file = codes "b" } ∷ record { id = 0; file = codes "a" } ∷ []

pub newest_is_in_front : ids_of opened ≡ 1 ∷ 0 ∷ []
newest_is_in_front = refl

pub file_of_id : held opened 0 ≡ Some (codes "a")
file_of_id = refl

pub no_file_of_id : held opened 2 ≡ None
no_file_of_id = refl

pub place_of_id : place 0 opened ≡ 1
place_of_id = refl

pub one_more_is_begun : BeginsOne (record { limit = 2; begun = 1 }) true (record { limit = 2; begun = 2 })
one_more_is_begun = (omega arith, refl)

pub limit_is_reached : BeginsOne (record { limit = 2; begun = 2 }) false (record { limit = 2; begun = 2 })
limit_is_reached = (refl, refl)

pub refused_memory_is_no_fault : KeptUnlessFailed {T = ℕ} 3 3 (Err NoMemory)
refused_memory_is_no_fault = refl

pub first_part_is_appended : AppendsPiece {E = ℕ} (Some (codes "a")) (Some (codes "abc")) (Err 0) (codes "bcd")
first_part_is_appended = (2, refl)
