-- A grammar reads a list of looks from the left. Where the list is too short to decide, it says what it wants next.
use Rattle.std.specs.Prelude.{ℕ, suc, ◌+◌, ◌≡◌, ◌≤◌, Bool, true, false, List, [], ◌∷◌, length}
use Rattle.texml_scan.specs.declared.looks.Look.{Look}
use Rattle.texml_scan.specs.declared.looks.Look.TheVariants.{End, Character, Other}
use Rattle.texml_scan.specs.declared.looks.Turn.{Turn}
use Rattle.texml_scan.specs.declared.looks.Turn.TheVariants.{On, Stop, Bad}
use Rattle.texml_scan.specs.declared.steps.ScanFault.{ScanFault}
use Rattle.texml_scan.specs.declared.steps.ScanStep.{ScanStep}
use Rattle.texml_scan.specs.declared.steps.ScanStep.TheVariants as step

-- what is wanted next: a token that was expanded, one that wasn't, or the quantity that the last token begins
pub data Want : Type 0 where
  Expanded : Want
  Raw : Want
  Asked : Want

-- what a grammar reads: a value, with the looks that aren't part of it
pub data Read (A : Type 0) : Type 0 where
  Wants : Want → Read A
  Gives : A → List Look → Read A
  Fails : ScanFault → Read A

abbrev pub Text : Type 0 → Type 0
Text A = List Look → Read A

abbrev pub behind : {A B : Type 0} → Read A → (A → Text B) → Read B
behind (Wants w) next = Wants w
behind (Gives a left) next = next a left
behind (Fails f) next = Fails f

-- one grammar, and then the next
infixl 10 ◌>>=◌
abbrev pub ◌>>=◌ : {A B : Type 0} → Text A → (A → Text B) → Text B
◌>>=◌ first next xs = behind (first xs) next

infixl 10 ◌>>◌
abbrev pub ◌>>◌ : {A B : Type 0} → Text A → Text B → Text B
◌>>◌ first next xs = behind (first xs) (λ a. next)

abbrev pub give : {A : Type 0} → A → Text A
give a xs = Gives a xs

abbrev pub fail : {A : Type 0} → ScanFault → Text A
fail f xs = Fails f

-- one thing after the other, as long as they are wanted
abbrev pub while : {S : Type 0} → (S → Look → Turn S) → S → Text S
while turn s [] = Wants Expanded
while {S} turn s (x ∷ xs) = elim (turn s x) as (λ _. Read S) [ On next ↦ while turn next xs | Stop ↦ Gives s (x ∷ xs) | Bad f ↦ Fails f ]

-- what a whole list says, if it is the shortest that decides: the value, and how many of its last looks aren't part of it
pub data Verdict (A : Type 0) : Type 0 where
  Wanting : Want → Verdict A
  Decided : A → ℕ → Verdict A
  Faulty : ScanFault → Verdict A

abbrev pub verdict : {A : Type 0} → Read A → Verdict A
verdict (Wants w) = Wanting w
verdict (Gives a left) = Decided a (length left)
verdict (Fails f) = Faulty f

-- what a grammar makes of what comes next
abbrev pub Remainder : Type 0 → Type 0
Remainder A = List Look → Verdict A

-- what an answer to a look says, whatever more comes
abbrev pub said : {V : Type 0} → ScanStep V → Remainder V → Remainder V
said step.More rest more = rest more
said step.Ask rest more = Wanting Asked
said (step.Done v) rest more = Decided v (length more)
said (step.DoneBack v n) rest more = Decided v (n + length more)
said (step.Fault f) rest more = Faulty f

-- what an answer to the end says: the end is never a part
abbrev pub said_end : {V : Type 0} → ScanStep V → Verdict V
said_end step.More = Wanting Expanded
said_end step.Ask = Wanting Asked
said_end (step.Done v) = Decided v 1
said_end (step.DoneBack v n) = Decided v (suc n)
said_end (step.Fault f) = Faulty f

abbrev pub wanted : {V : Type 0} → Bool → Verdict V
wanted true = Wanting Raw
wanted false = Wanting Expanded

-- an answer that ends the reading, and leaves what was looked at last
abbrev pub Ends : {V : Type 0} → ScanStep V → Type 0
Ends step.More = ⊥
Ends step.Ask = ⊥
Ends (step.Done v) = ⊥
Ends (step.DoneBack v n) = 1 ≤ n
Ends (step.Fault f) = Unit {0}

-- an answer that ends the reading
abbrev pub IsLast : {V : Type 0} → ScanStep V → Type 0
IsLast step.More = ⊥
IsLast step.Ask = ⊥
IsLast (step.Done v) = Unit {0}
IsLast (step.DoneBack v n) = 1 ≤ n
IsLast (step.Fault f) = Unit {0}

-- an answer that puts something back where it says that it does
abbrev pub PutsSome : {V : Type 0} → ScanStep V → Type 0
PutsSome step.More = Unit {0}
PutsSome step.Ask = Unit {0}
PutsSome (step.Done v) = Unit {0}
PutsSome (step.DoneBack v n) = 1 ≤ n
PutsSome (step.Fault f) = Unit {0}

-- an answer that puts back one look, if any
abbrev pub PutsOne : {V : Type 0} → ScanStep V → Type 0
PutsOne step.More = Unit {0}
PutsOne step.Ask = Unit {0}
PutsOne (step.Done v) = Unit {0}
PutsOne (step.DoneBack v n) = n ≡ 1
PutsOne (step.Fault f) = Unit {0}

-- the end is never taken, nor gone beyond
abbrev pub AtEnd : Look → Type 0 → Type 0
AtEnd End P = P
AtEnd (Character c k) P = Unit {0}
AtEnd (Other c q) P = Unit {0}

-- a fact of the value that an answer has, where it has one
abbrev pub OnValue : {V : Type 0} → ScanStep V → (V → Type 0) → Type 0
OnValue step.More P = Unit {0}
OnValue step.Ask P = Unit {0}
OnValue (step.Done v) P = P v
OnValue (step.DoneBack v n) P = P v
OnValue (step.Fault f) P = Unit {0}

abbrev pub OnAsk : {V : Type 0} → ScanStep V → Type 0 → Type 0
OnAsk step.More P = Unit {0}
OnAsk step.Ask P = P
OnAsk (step.Done v) P = Unit {0}
OnAsk (step.DoneBack v n) P = Unit {0}
OnAsk (step.Fault f) P = Unit {0}

-- an answer in full: the looks that aren't part are the last one, or none
abbrev pub stepped : {V : Type 0} → ScanStep V → Text V → Look → Text V
stepped step.More rest x more = rest more
stepped step.Ask rest x more = Wants Asked
stepped (step.Done v) rest x more = Gives v more
stepped (step.DoneBack v n) rest x more = Gives v (x ∷ more)
stepped (step.Fault f) rest x more = Fails f

abbrev pub wanted_next : {V : Type 0} → Bool → Read V
wanted_next true = Wants Raw
wanted_next false = Wants Expanded
