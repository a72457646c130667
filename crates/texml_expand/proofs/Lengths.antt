-- An argument is no longer than what is read for it.
use Rattle.std.proofs.Common.{◌≡◌, ◌+◌, ◌-◌, ◌≤◌, ℕ, Bool, true, false, ◌&&◌, ◌||◌, not, if◌then◌else◌, List, [], ◌∷◌, ◌++◌, length, length-append, take, Option, None, Some, option_map, Ok, Err, refl, ap, subst, arith}
use Rattle.std.specs.List.{list_any, ends_with}
use Rattle.std.specs.Option.{unwrap_or}
use Rattle.std.proofs.lemmas.List.{length-take-le}
use Rattle.texml_token.specs.Token.{Token, has_category, token_eq}
use Rattle.texml_token.specs.declared.category.TheConstants.{BEGIN_GROUP, END_GROUP, SPACE}
use Rattle.texml_match.specs.declared.arg_match.MatchFault.TheVariants.{RunawayPar, ExtraBrace}
use Rattle.texml_match.specs.Groups.{is_balanced, ends_unbegun, closes, but_last, inside, unbraced}
use Rattle.texml_match.specs.Reading.{Read, Wants, Gives, Fails, Reader, Verdict, decided_or, least, behind}
use Rattle.texml_match.specs.Arguments.{spaces, undelimited, delimited, argument_in, is_par, lets_par, verdict, argument}
use Rattle.texml_expand.specs.declared.feeding.Verdict.TheVariants.{Yields}
use Rattle.texml_expand.specs.Arguments.{decided_by}

-- parts of a list
but_last_short : (list : List Token) → length (but_last list) ≤ length list
but_last_short list = let n = length-take-le (length list - 1) list (omega arith) in omega (arith, n)

if_inside : (b : Bool) (x a : List Token) (n : ℕ) → (if b then Some x else None) ≡ Some a → length x ≤ n → length a ≤ n
if_inside true x a n e le = let same : x ≡ a = cc in subst (λ l. length l ≤ n) same le
if_inside false x a n e le = cc

inside_short : (list a : List Token) → inside list ≡ Some a → length a ≤ length list
inside_short [] a e = cc
inside_short (t ∷ ts) a e = if_inside (has_category BEGIN_GROUP t && closes ts) (but_last ts) a (length (t ∷ ts)) e (let le = but_last_short ts in omega (arith, le))

unwrap_short : (list : List Token) (o : Option (List Token)) → inside list ≡ o → length (unwrap_or o list) ≤ length list
unwrap_short list None e = omega arith
unwrap_short list (Some a) e = inside_short list a e

if_one : (b : Bool) (x a : List Token) → (if b then None else Some x) ≡ Some a → length a ≤ length x
if_one true x a e = cc
if_one false x a e = let same : x ≡ a = cc in subst (λ l. length l ≤ length x) same (omega arith)

undelimited_short : (list a : List Token) → undelimited list ≡ Some a → length a ≤ length list
undelimited_short [] a e = cc
undelimited_short (t ∷ []) a e = if_one (has_category BEGIN_GROUP t || has_category END_GROUP t) (t ∷ []) a e
undelimited_short (t ∷ u ∷ ts) a e = inside_short (t ∷ u ∷ ts) a e

delimited_short : (delimiter list a : List Token) → delimited delimiter list ≡ Some a → length a ≤ length list
delimited_short delimiter list a e =
    let before = take (length list - length delimiter) list in
    if_inside (ends_with token_eq list delimiter && is_balanced before) (unbraced before) a (length list) e
    (let le = unwrap_short before (inside before) refl in let fewer = length-take-le (length list - length delimiter) list (omega arith) in omega (arith, le, fewer))

argument_in_short : (delimiter list a : List Token) → argument_in delimiter list ≡ Some a → length a ≤ length list
argument_in_short [] list a e = undelimited_short list a e
argument_in_short (d ∷ ds) list a e = delimited_short (d ∷ ds) list a e

-- what tokens decide on
abbrev oks : Option (List Token) → Verdict (List Token)
oks o = option_map Ok o

ok_some : (o : Option (List Token)) (a : List Token) → oks o ≡ Some (Ok a) → o ≡ Some a
ok_some None a e = cc
ok_some (Some b) a e = let same : b ≡ a = cc in ap Some same

chosen : (b c : Bool) (o : Option (List Token)) (a : List Token) → (if b then Some (Err ExtraBrace) else if c then Some (Err RunawayPar) else oks o) ≡ Some (Ok a) → o ≡ Some a
chosen true c o a e = cc
chosen false true o a e = cc
chosen false false o a e = ok_some o a e

verdict_short : (long : Bool) (delimiter list a : List Token) → verdict long delimiter list ≡ Some (Ok a) → length a ≤ length list
verdict_short long delimiter list a e =
    argument_in_short delimiter list a (chosen (ends_unbegun list) (list_any is_par list && not (lets_par long delimiter)) (argument_in delimiter list) a e)

-- what is read has at most so many tokens
abbrev pub Fits : ℕ → Read (List Token) → Type 0
Fits n Wants = Unit {0}
Fits n (Gives a left) = length a ≤ n
Fits n (Fails f) = Unit {0}

fits_more : (m n : ℕ) (r : Read (List Token)) → m ≤ n → Fits m r → Fits n r
fits_more m n Wants le h = tt
fits_more m n (Gives a left) le h = omega (arith, h)
fits_more m n (Fails f) le h = tt

decided_fits : (n : ℕ) (v : Verdict (List Token)) (left : List Token) (onward : Read (List Token)) → ((a : List Token) → v ≡ Some (Ok a) → length a ≤ n) → Fits n onward → Fits n (decided_or v left onward)
decided_fits n None left onward h k = k
decided_fits n (Some (Ok a)) left onward h k = h a refl
decided_fits n (Some (Err f)) left onward h k = tt

least_fits : (long : Bool) (delimiter seen more : List Token) → Fits (length seen + length more) (least (verdict long delimiter) seen more)
least_fits long delimiter seen [] = tt
least_fits long delimiter seen (t ∷ ts) =
    let n = length-append seen (t ∷ []) in
    decided_fits (length seen + length (t ∷ ts)) (verdict long delimiter (seen ++ t ∷ [])) ts (least (verdict long delimiter) (seen ++ t ∷ []) ts)
    (λ a e. let le = verdict_short long delimiter (seen ++ t ∷ []) a e in omega (arith, le, n))
    (fits_more (length (seen ++ t ∷ []) + length ts) (length seen + length (t ∷ ts)) (least (verdict long delimiter) (seen ++ t ∷ []) ts) (omega (arith, n)) (least_fits long delimiter (seen ++ t ∷ []) ts))

if_space : (b : Bool) (t : Token) (ts : List Token) (next : Reader (List Token)) → Fits (length ts) (behind (spaces ts) (λ _. next)) → Fits (length (t ∷ ts)) (next (t ∷ ts))
    → Fits (length (t ∷ ts)) (behind (if b then spaces ts else Gives tt (t ∷ ts)) (λ _. next))
if_space true t ts next h k = fits_more (length ts) (length (t ∷ ts)) (behind (spaces ts) (λ _. next)) (omega arith) h
if_space false t ts next h k = k

spaces_fit : (next : Reader (List Token)) → ((list : List Token) → Fits (length list) (next list)) → (list : List Token) → Fits (length list) (behind (spaces list) (λ _. next))
spaces_fit next h [] = tt
spaces_fit next h (t ∷ ts) = if_space (has_category SPACE t) t ts next (spaces_fit next h ts) (h (t ∷ ts))

pub argument_fits : (long : Bool) (delimiter list : List Token) → Fits (length list) (argument long delimiter list)
argument_fits long [] list =
    spaces_fit (least (verdict long []) []) (λ l. fits_more (0 + length l) (length l) (least (verdict long []) [] l) (omega arith) (least_fits long [] [] l)) list
argument_fits long (d ∷ ds) list = fits_more (0 + length list) (length list) (least (verdict long (d ∷ ds)) [] list) (omega arith) (least_fits long (d ∷ ds) [] list)

pub yields_fits : (n : ℕ) (r : Read (List Token)) (a : List Token) → Fits n r → decided_by r ≡ Yields a → length a ≤ n
yields_fits n Wants a h e = cc
yields_fits n (Gives b left) a h e = let same : b ≡ a = cc in subst (λ l. length l ≤ n) same h
yields_fits n (Fails f) a h e = cc
