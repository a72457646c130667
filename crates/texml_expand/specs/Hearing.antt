-- What a call of the engine does where it may tell of expansions, by a definition's answer.
use Rattle.std.specs.Prelude.{◌≡◌, ℕ, Bool, true, false, IsTrue, List, ◌∷◌, ◌++◌, Option, Some, None, Result, Ok, Err}
use Rattle.std.specs.Option.{option_to_list}
use Rattle.texml_base.specs.Outside.{Shelf}
use Rattle.texml_watch.specs.declared.record.Record.{Record}
use Rattle.texml_watch.specs.Telling.{AllHeard}
use Rattle.texml_expand.specs.declared.stop.Stop.{Stop}
use Rattle.texml_expand.specs.declared.stop.Stop.TheVariants as stop
use Rattle.texml_expand.specs.State.{State, End, Tex, Limit, Gains, Answer, Done, Ended, added}
use Rattle.texml_expand.specs.Contract.{DecidesOn}

-- who wants records hears one, and who wants none stays as they were
abbrev pub HearsIf : {T : Type 0} → Bool → (T → Record → T → Type 0) → T → Record → T → Type 0
HearsIf true heard a row b = heard a row b
HearsIf false heard a row b = b ≡ a

abbrev pub hears : {T : Type 0} → (T → Bool) → (T → Record → T → Type 0) → T → Record → T → Type 0
hears wants heard a row b = HearsIf (wants a) heard a row b

-- who wants none hears no part of one
abbrev pub HearsPartIf : {T : Type 0} → Bool → (T → Record → T → Type 0) → T → Record → T → Type 0
HearsPartIf true part a row b = part a row b
HearsPartIf false part a row b = ⊥

abbrev pub hears_part : {T : Type 0} → (T → Bool) → (T → Record → T → Type 0) → T → Record → T → Type 0
hears_part wants part a row b = HearsPartIf (wants a) part a row b

module _ {T : Type 0} (hear part : T → Record → T → Type 0) where
  -- these records were heard, and then perhaps a part of one more
  abbrev pub HeardLast : List Record → Option Record → T → T → Type 0
  HeardLast rows None a b = AllHeard hear a rows b
  HeardLast rows (Some last) a b = (m : T) × AllHeard hear a rows m × part m last b

  -- the answer is this value and this state, and its records were heard
  pub record MeetsDone {A : Type 0} (answer : Answer A) (value : A) (s : State) (a b : T) : Type 0 where
    pub gains : Gains
    pub is : answer ≡ Done value s gains
    pub heard : AllHeard hear a gains.records b

  -- the answer is this end, and its records were heard
  pub record MeetsEnd {A : Type 0} (answer : Answer A) (end : End) (a b : T) : Type 0 where
    pub gains : Gains
    pub is : answer ≡ Ended end gains
    pub heard : AllHeard hear a gains.records b

  -- the first of the records that the answer adds were heard
  pub record MeetsFirst {A : Type 0} (answer : Answer A) (a b : T) : Type 0 where
    pub rows : List Record
    pub more : List Record
    pub is : (added answer).records ≡ rows ++ more
    pub heard : AllHeard hear a rows b

  -- and the next one in part
  pub record MeetsCut {A : Type 0} (answer : Answer A) (a b : T) : Type 0 where
    pub rows : List Record
    pub last : Record
    pub more : List Record
    pub is : (added answer).records ≡ rows ++ last ∷ more
    pub heard : HeardLast rows (Some last) a b

  -- the one or the other
  pub record MeetsPart {A : Type 0} (answer : Answer A) (a b : T) : Type 0 where
    pub rows : List Record
    pub last : Option Record
    pub more : List Record
    pub is : (added answer).records ≡ rows ++ option_to_list last ++ more
    pub heard : HeardLast rows last a b

  -- what a result says of the answer; the state is the one behind it. Telling fails at a record that is heard in part, and
  -- memory is short there or elsewhere
  abbrev pub Meets : {A : Type 0} → Answer A → Result A Stop → State → T → T → Type 0
  Meets answer (Ok v) s a b = MeetsDone answer v s a b
  Meets answer (Err (stop.Tex f)) s a b = MeetsEnd answer (Tex f) a b
  Meets answer (Err (stop.Limit n)) s a b = MeetsEnd answer (Limit n) a b
  Meets answer (Err stop.ReadFailed) s a b = MeetsFirst answer a b
  Meets answer (Err stop.TellFailed) s a b = MeetsCut answer a b
  Meets answer (Err stop.NoMemory) s a b = MeetsPart answer a b

  -- by the answer that a definition gives
  pub record Follows {A : Type 0} (reading : ℕ → Answer A) (result : Result A Stop) (s : State) (a b : T) : Type 0 where
    pub answer : Answer A
    pub given : DecidesOn reading answer
    pub meets : Meets answer result s a b

  -- the same, if the files tell what they have
  abbrev pub FollowsTold : {A : Type 0} → Shelf → (ℕ → Answer A) → Result A Stop → State → T → T → Type 0
  FollowsTold before reading result s a b = IsTrue before.tells → Follows reading result s a b
