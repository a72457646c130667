-- Numbers (The TeXbook, chapter 24).
use Rattle.std.specs.Prelude.{ℕ, ℤ, pos, neg_ℤ, ◌+◌, ◌*◌, Bool, true, false, [], ◌∷◌, Option, Some, None, if◌then◌else◌, int_le, ◌&&◌, Result, Ok, Err, unsigned_abs}
use Rattle.texml_fixed.specs.declared.fault.NumFault.{NumFault}
use Rattle.texml_fixed.specs.declared.fault.NumFault.TheVariants.{TooBig as NumTooBig}
use Rattle.texml_fixed.specs.Arithmetic.{bounded}
use Rattle.texml_fixed.specs.declared.arithmetic.TheConstants.{MAX_NUMBER}
use Rattle.texml_scan.specs.declared.looks.Look.{Look}
use Rattle.texml_scan.specs.declared.looks.Start.{Start}
use Rattle.texml_scan.specs.declared.looks.Start.TheVariants as start
use Rattle.texml_scan.specs.declared.looks.Turn.{Turn}
use Rattle.texml_scan.specs.declared.looks.Turn.TheVariants.{On, Stop, Bad}
use Rattle.texml_scan.specs.declared.steps.ScanFault.TheVariants.{MissingNumber, TooBig}
use Rattle.texml_scan.specs.Looks.{is_space, digit_of, sign_turn, start_of, code_of}
use Rattle.texml_scan.specs.Grammar.{Text, Wants, Gives, Raw, Expanded, Asked, ◌>>=◌, give, fail, while}

abbrev pub signed : Bool → ℤ → ℤ
signed true i = neg_ℤ i
signed false i = i

-- a number that doesn't pass the bound on either side of 0
abbrev pub is_within : ℤ → Bool
is_within i = int_le (neg_ℤ MAX_NUMBER) i && int_le i MAX_NUMBER

-- at most one space
abbrev pub one_space : {A : Type 0} → A → Text A
one_space a [] = Wants Expanded
one_space a (x ∷ xs) = if is_space x then Gives a xs else Gives a (x ∷ xs)

-- a number with one more digit, up to the bound
abbrev pub grown : Result ℤ NumFault → Turn ℕ
grown (Ok n) = On (unsigned_abs n)
grown (Err fault) = Bad TooBig

abbrev pub digit_more : ℕ → ℕ → Option ℕ → Turn ℕ
digit_more radix n None = Stop
digit_more radix n (Some d) = grown (bounded NumTooBig MAX_NUMBER (pos (n * radix + d)))

abbrev pub digit_turn : ℕ → ℕ → Look → Turn ℕ
digit_turn radix n x = digit_more radix n (digit_of radix x)

-- the digits behind the first ones, and a space
abbrev pub digits : Bool → ℕ → ℕ → Text ℤ
digits negative radix n = do
  m ← while (digit_turn radix) n
  one_space (signed negative (pos m))

-- the first digit behind ' or "
abbrev pub first_by : Bool → ℕ → Option ℕ → Text ℤ
first_by negative radix None = fail MissingNumber
first_by negative radix (Some d) = digits negative radix d

abbrev pub first_digit : Bool → ℕ → Text ℤ
first_digit negative radix [] = Wants Expanded
first_digit negative radix (x ∷ xs) = first_by negative radix (digit_of radix x) xs

-- the character behind a backquote, and a space
abbrev pub quoted_by : Bool → Option ℕ → Text ℤ
quoted_by negative None = fail MissingNumber
quoted_by negative (Some c) = if is_within (pos c) then one_space (signed negative (pos c)) else fail TooBig

abbrev pub quoted : Bool → Text ℤ
quoted negative [] = Wants Raw
quoted negative (x ∷ xs) = quoted_by negative (code_of x) xs

-- a number that was read already, unless it passes the bound
abbrev pub known : Bool → ℤ → Text ℤ
known negative i = if is_within (signed negative i) then give (signed negative i) else fail TooBig

abbrev pub begun : Bool → Start → Text ℤ
begun negative (start.Digit d) = digits negative 10 d
begun negative (start.Radix radix) = first_digit negative radix
begun negative start.Quote = quoted negative
begun negative (start.Known i) = known negative i
begun negative start.Unread = λ xs. Wants Asked
begun negative start.Other = fail MissingNumber

-- a number without signs
abbrev pub unsigned : Bool → Text ℤ
unsigned negative [] = Wants Expanded
unsigned negative (x ∷ xs) = begun negative (start_of x) xs

-- signs and spaces, and a number without signs
abbrev pub number_from : Bool → Text ℤ
number_from negative = do
  sign ← while sign_turn negative
  unsigned sign

abbrev pub number : Text ℤ
number = number_from false
