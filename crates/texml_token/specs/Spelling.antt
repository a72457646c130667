-- How tokens are written as characters: spelled, as by \string, or shown, as on the terminal.
use Rattle.std.specs.Prelude.{ℕ, ℤ, pos, negsuc, ◌+◌, List, [], ◌∷◌, ◌++◌, nat_eq, nat_lt, if◌then◌else◌, codes}
use Rattle.std.specs.List.{flat_map}
use Rattle.std.specs.Char.{is_ascii_alphabetic}
use lib.Utf8.{scalar}
use Rattle.texml_token.specs.Token.{Token, Char, Active, Param, Named, Fixed, relax}

abbrev pub csname : List ℕ
csname = codes "csname"

abbrev pub endcsname : List ℕ
endcsname = codes "endcsname"

-- the escape character, which is none where the escape is no character's code
abbrev pub escape_codes : ℤ → List ℕ
escape_codes (pos c) = if scalar c then c ∷ [] else []
escape_codes (negsuc c) = []

-- a name with the escape character before it. The empty name is \csname\endcsname
abbrev pub spelled_name : ℤ → List ℕ → List ℕ
spelled_name escape [] = escape_codes escape ++ csname ++ escape_codes escape ++ endcsname
spelled_name escape (c ∷ cs) = escape_codes escape ++ c ∷ cs

-- the place of a parameter: # and its digit
abbrev pub digit_zero : ℕ
digit_zero = 48

abbrev pub place_codes : ℕ → List ℕ
place_codes n = codes "#" ++ (digit_zero + n) ∷ []

-- what \string gives of a token
abbrev pub spelled : ℤ → Token → List ℕ
spelled escape (Char c category) = c ∷ []
spelled escape (Active c) = c ∷ []
spelled escape (Param n) = place_codes n
spelled escape (Named text) = spelled_name escape text
spelled escape Fixed = spelled_name escape relax

abbrev pub space : ℕ
space = 32

abbrev pub delete : ℕ
delete = 127

-- the distance of a code below 32 from the one that it is shown as
abbrev pub shift : ℕ
shift = 64

-- a character itself, but ^^@ to ^^_ for the codes below that of the space, and ^^? for the last ASCII code
abbrev pub shown_code : ℕ → List ℕ
shown_code c =
    if nat_lt c space then codes "^^" ++ (c + shift) ∷ []
    else if nat_eq c delete then codes "^^?"
    else c ∷ []

-- the space after a shown name: none after the empty name, or after one character that is no letter
abbrev pub name_end : List ℕ → List ℕ
name_end [] = []
name_end (c ∷ []) = if is_ascii_alphabetic c then space ∷ [] else []
name_end (c ∷ d ∷ cs) = space ∷ []

-- (TeX shows the empty name as \csname\endcsname, and goes by the category that a letter has at the moment)
abbrev pub shown_name : List ℕ → List ℕ
shown_name text = codes "\\" ++ flat_map shown_code text ++ name_end text

abbrev pub shown_token : Token → List ℕ
shown_token (Char c category) = shown_code c
shown_token (Active c) = shown_code c
shown_token (Param n) = place_codes n
shown_token (Named text) = shown_name text
shown_token Fixed = shown_name relax

-- each token once, a parameter character too, which TeX shows twice
abbrev pub shown : List Token → List ℕ
shown = flat_map shown_token
