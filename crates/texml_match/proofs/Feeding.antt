-- A token that is taken.
use Rattle.std.proofs.Common.{◌≡◌, ◌+◌, ◌≤◌, ◌<◌, ℕ, zero, suc, Bool, true, false, cond, if◌then◌else◌, ◌&&◌, ◌||◌, not, nat_lt, List, [], ◌∷◌, ◌++◌, length, drop, map, get_or, Option, None, Some, option_map, is_none, Ok, Err, refl, sym, ap, ap₂, ◌∙◌, arith, append_assoc, append-nil, subst, inl, inr, length-append, true≢false}
use Rattle.std.specs.List.{All, list_any}
use Rattle.std.proofs.Math.Seq.{drop-cons}
use Rattle.std.proofs.lemmas.List.{drop_all, map-append}
use Rattle.std.proofs.lemmas.List.Elements.{All-nil, All-push, All-get_or}
use Rattle.std.proofs.lemmas.List.Folds.{list_any-append}
use Rattle.std.proofs.lemmas.Bool.{cases_lt}
use Rattle.std.proofs.lemmas.Bool.Decides.{nat_tests}
use Rattle.texml_token.specs.Token.{Token, token_eq, has_category}
use Rattle.texml_token.specs.declared.tokens.Token.{Token as TokenCode}
use Rattle.texml_token.specs.declared.category.TheConstants.{SPACE}
use Rattle.texml_token.specs.Numbers.{Table, token_at, tokens_at, TokenWithin, TokensWithin}
use Rattle.texml_token.specs.contracts.tokens.TokenPartialEq.TheImpl as code
use Rattle.texml_token.specs.declared.tokens.Token.TheVariants as tokens
use Rattle.texml_token.proofs.Same.{token-decides}
use Rattle.texml_token.proofs.Translation.{tokens_agree}
use Rattle.texml_match.specs.declared.arg_match.MatchFault.{MatchFault}
use Rattle.texml_match.specs.declared.arg_match.MatchFault.TheVariants.{Mismatch, RunawayPar, ExtraBrace}
use Rattle.texml_match.specs.Groups.{open_behind, ends_unbegun}
use Rattle.texml_match.specs.Reading.{Read, Wants, Gives, Fails, Reader, behind, Verdict, decided_or, least}
use Rattle.texml_match.specs.Shape.{Shape}
use Rattle.texml_match.specs.Arguments.{exactly, spaces, is_par, lets_par, verdict, argument_in, argument, arguments}
use Rattle.texml_match.specs.Left.{Matched, argument_left, arguments_with, arguments_left, left, next_delimiter, runs_away, Stands, is_more, Reads}
use Rattle.texml_match.specs.Taking.{skips}

pub any_goes : {X Y : Type 0} (p : Y → Bool) (f : X → Y) (rest behind : List X) (x : X) → rest ≡ x ∷ behind → p (f x) ≡ false → list_any p (map f behind) ≡ list_any p (map f rest)
any_goes p f rest behind x e h = ap (λ b. b || list_any p (map f behind)) (sym h) ∙ ap (λ xs. list_any p (map f xs)) (sym e)

-- Arguments that were read, and those that are left

module _ (long : Bool) where
  after_first : (args : List (List Token)) (first : List Token) (r : Read (List (List Token))) → behind (behind r (λ others. λ list. Gives (first ∷ others) list)) (λ others. λ list. Gives (args ++ others) list) ≡ behind r (λ others. λ list. Gives ((args ++ first ∷ []) ++ others) list)
  after_first args first Wants = refl
  after_first args first (Gives others list) = ap (λ all. Gives all list) (sym (append_assoc args (first ∷ []) others))
  after_first args first (Fails f) = refl

  with_first : (args ds : List (List Token)) (r : Read (List Token)) → behind (behind r (λ first. λ list. behind (arguments long ds list) (λ others. λ rest. Gives (first ∷ others) rest))) (λ others. λ list. Gives (args ++ others) list) ≡ behind r (λ next. arguments_with long (args ++ next ∷ []) ds)
  with_first args ds Wants = refl
  with_first args ds (Gives first list) = after_first args first (arguments long ds list)
  with_first args ds (Fails f) = refl

  pub with_left : (args ds : List (List Token)) (more : List Token) → arguments_with long args ds more ≡ arguments_left long ds args [] more
  with_left args [] more = ap (λ all. Gives all more) (append-nil args)
  with_left args (d ∷ ds) more = with_first args ds (argument long d more)

  -- a space before an argument without a delimiter
  pub skipped : (d list : List Token) (t : Token) (more : List Token) → skips d list t ≡ true → argument_left long d list (t ∷ more) ≡ argument_left long d list more
  skipped [] [] t more e = ap (λ b. behind (cond b (spaces more) (Gives tt (t ∷ more))) (λ _. least (verdict long []) [])) e
  skipped [] (l ∷ ls) t more e = absurd (true≢false (sym e))
  skipped (d ∷ ds) list t more e = absurd (true≢false (sym e))

  pushed_left : (d list : List Token) (t : Token) (more : List Token) → least (verdict long d) (list ++ t ∷ []) more ≡ argument_left long d (list ++ t ∷ []) more
  pushed_left d [] t more = refl
  pushed_left d (l ∷ ls) t more = refl

  one_more : (d list : List Token) (t : Token) (more : List Token) → skips d list t ≡ false → argument_left long d list (t ∷ more) ≡ decided_or (verdict long d (list ++ t ∷ [])) more (least (verdict long d) (list ++ t ∷ []) more)
  one_more [] [] t more e = ap (λ b. behind (cond b (spaces more) (Gives tt (t ∷ more))) (λ _. least (verdict long []) [])) e
  one_more (d ∷ ds) [] t more e = refl
  one_more d (l ∷ ls) t more e = refl

  -- another token, by what it decides
  pub stepped : (d list : List Token) (t : Token) (more : List Token) → skips d list t ≡ false → argument_left long d list (t ∷ more) ≡ decided_or (verdict long d (list ++ t ∷ [])) more (argument_left long d (list ++ t ∷ []) more)
  stepped d list t more e = one_more d list t more e ∙ ap (decided_or (verdict long d (list ++ t ∷ [])) more) (pushed_left d list t more)

  pub verdict_brace : (d list : List Token) → open_behind 0 list ≡ None → verdict long d list ≡ Some (Err ExtraBrace)
  verdict_brace d list e = ap (λ o. cond (is_none o) (Some (Err ExtraBrace)) (cond (runs_away long d list) (Some (Err RunawayPar)) (option_map Ok (argument_in d list)))) e

  pub verdict_par : (d list : List Token) (n : ℕ) → open_behind 0 list ≡ Some n → runs_away long d list ≡ true → verdict long d list ≡ Some (Err RunawayPar)
  verdict_par d list n e f = ap₂ (λ o b. cond (is_none o) (Some (Err ExtraBrace)) (cond b (Some (Err RunawayPar)) (option_map Ok (argument_in d list)))) e f

  pub verdict_of : (d list : List Token) (n : ℕ) → open_behind 0 list ≡ Some n → runs_away long d list ≡ false → verdict long d list ≡ option_map Ok (argument_in d list)
  verdict_of d list n e f = ap₂ (λ o b. cond (is_none o) (Some (Err ExtraBrace)) (cond b (Some (Err RunawayPar)) (option_map Ok (argument_in d list)))) e f

  -- whether `\par` runs away, from one token to the next
  by_last : (p q l : Bool) → p && l ≡ false → (p || (q || false)) && l ≡ q && l
  by_last true q true e = absurd (true≢false e)
  by_last true true false e = refl
  by_last true false false e = refl
  by_last false true l e = refl
  by_last false false l e = refl

  pub runs_last : (d list : List Token) (t : Token) → runs_away long d list ≡ false → runs_away long d (list ++ t ∷ []) ≡ is_par t && not (lets_par long d)
  runs_last d list t e = ap (λ b. b && not (lets_par long d)) (list_any-append is_par list (t ∷ [])) ∙ by_last (list_any is_par list) (is_par t) (not (lets_par long d)) e

-- nothing is decided by no tokens
pub wants_argument : (long : Bool) (d list : List Token) → argument_left long d list [] ≡ Wants
wants_argument long [] [] = refl
wants_argument long (d ∷ ds) [] = refl
wants_argument long [] (l ∷ ls) = refl
wants_argument long (d ∷ ds) (l ∷ ls) = refl

pub run_as : (t : Token) (d : List Token) (l long r : Bool) → r ≡ is_par t && not (lets_par l d) → l ≡ long → is_par t && not (lets_par long d) ≡ r
run_as t d l long r e f = sym (e ∙ ap (λ b. is_par t && not (lets_par b d)) f)

-- The state

pub one_left : (a b c d : ℕ) → nat_lt a b || nat_lt c d ≡ true → b ≤ a → c < d
one_left a b c d e le = grind (arith, nat_tests, e)

module _ (texts : Table) (shape : Shape TokenCode) (m : Matched) where
  -- behind the tokens before the first argument
  pub behind_prefix : length shape.prefix ≤ m.prefix → (more : List Token) → left texts shape m more ≡ arguments_left shape.long (map (tokens_at texts) (drop (length m.args) shape.delimiters)) (map (tokens_at texts) m.args) (tokens_at texts m.list) more
  behind_prefix le more = ap (λ es. behind (exactly (tokens_at texts es) more) (λ _. arguments_left shape.long (map (tokens_at texts) (drop (length m.args) shape.delimiters)) (map (tokens_at texts) m.args) (tokens_at texts m.list))) (drop_all m.prefix shape.prefix le)

  -- in an argument
  pub in_argument : length shape.prefix ≤ m.prefix → length m.args < length shape.delimiters → (d : List TokenCode) → d ≡ next_delimiter shape m → (more : List Token)
      → left texts shape m more ≡ behind (argument_left shape.long (tokens_at texts d) (tokens_at texts m.list) more) (λ next. arguments_with shape.long (map (tokens_at texts) m.args ++ next ∷ []) (map (tokens_at texts) (drop (suc (length m.args)) shape.delimiters)))
  in_argument le lt d same more =
      behind_prefix le more ∙ (ap (λ ds. arguments_left shape.long (map (tokens_at texts) ds) (map (tokens_at texts) m.args) (tokens_at texts m.list) more) (drop-cons shape.delimiters (length m.args) [] lt) ∙
      ap (λ e. behind (argument_left shape.long (tokens_at texts e) (tokens_at texts m.list) more) (λ next. arguments_with shape.long (map (tokens_at texts) m.args ++ next ∷ []) (map (tokens_at texts) (drop (suc (length m.args)) shape.delimiters)))) (sym same))

  -- at the end
  pub all_read : length shape.prefix ≤ m.prefix → length shape.delimiters ≤ length m.args → (more : List Token) → left texts shape m more ≡ Gives (map (tokens_at texts) m.args) more
  all_read le none more = behind_prefix le more ∙ ap (λ ds. arguments_left shape.long (map (tokens_at texts) ds) (map (tokens_at texts) m.args) (tokens_at texts m.list) more) (drop_all (length m.args) shape.delimiters none)

  -- a token before the first argument
  module _ (lt : m.prefix < length shape.prefix) (t : TokenCode) where
    prefix_step : (b : Bool) (more : List Token) → token_eq (token_at texts (get_or shape.prefix m.prefix t)) (token_at texts t) ≡ b
        → left texts shape m (token_at texts t ∷ more) ≡ behind (cond b (exactly (tokens_at texts (drop (suc m.prefix) shape.prefix)) more) (Fails Mismatch)) (λ _. arguments_left shape.long (map (tokens_at texts) (drop (length m.args) shape.delimiters)) (map (tokens_at texts) m.args) (tokens_at texts m.list))
    prefix_step b more e =
        ap (λ es. behind (exactly (tokens_at texts es) (token_at texts t ∷ more)) (λ _. arguments_left shape.long (map (tokens_at texts) (drop (length m.args) shape.delimiters)) (map (tokens_at texts) m.args) (tokens_at texts m.list))) (drop-cons shape.prefix m.prefix t lt) ∙
        ap (λ b. behind (cond b (exactly (tokens_at texts (drop (suc m.prefix) shape.prefix)) more) (Fails Mismatch)) (λ _. arguments_left shape.long (map (tokens_at texts) (drop (length m.args) shape.delimiters)) (map (tokens_at texts) m.args) (tokens_at texts m.list))) e

    module _ (s : Stands texts shape m) (k : TokenWithin (length texts) t) where
      agrees : token_eq (token_at texts (get_or shape.prefix m.prefix t)) (token_at texts t) ≡ code.eq-value.it (get_or shape.prefix m.prefix t) t
      agrees = tokens_agree texts s.numbered (get_or shape.prefix m.prefix t) t (All-get_or (TokenWithin (length texts)) shape.prefix m.prefix t lt s.within.prefix) k

      pub prefix_goes : get_or shape.prefix m.prefix t ≡ t → (more : List Token) → left texts shape m (token_at texts t ∷ more) ≡ left texts shape (record { prefix = m.prefix + 1; args = m.args; list = m.list }) more
      prefix_goes e more =
          let next : suc m.prefix ≡ m.prefix + 1 = omega arith in
          prefix_step true more (agrees ∙ (token-decides (get_or shape.prefix m.prefix t) t).1 e) ∙
          ap (λ n. behind (exactly (tokens_at texts (drop n shape.prefix)) more) (λ _. arguments_left shape.long (map (tokens_at texts) (drop (length m.args) shape.delimiters)) (map (tokens_at texts) m.args) (tokens_at texts m.list))) next

      pub prefix_stops : (get_or shape.prefix m.prefix t ≡ t → ⊥) → (more : List Token) → left texts shape m (token_at texts t ∷ more) ≡ Fails Mismatch
      prefix_stops h more = prefix_step false more (agrees ∙ by (code.eq-value.it (get_or shape.prefix m.prefix t) t) refl)
        where
          by : (b : Bool) → code.eq-value.it (get_or shape.prefix m.prefix t) t ≡ b → b ≡ false
          by true e = absurd (h ((token-decides (get_or shape.prefix m.prefix t) t).0 e))
          by false e = refl

  pub wants_more : Reads texts shape m → left texts shape m [] ≡ Wants
  wants_more r = elim (cases_lt m.prefix (length shape.prefix)) [
    | inl lt ↦ (
        let d : TokenCode = tokens.Active 0 in
        ap (λ es. behind (exactly (tokens_at texts es) []) (λ _. arguments_left shape.long (map (tokens_at texts) (drop (length m.args) shape.delimiters)) (map (tokens_at texts) m.args) (tokens_at texts m.list))) (drop-cons shape.prefix m.prefix d lt))
    | inr le ↦ in_argument le (one_left m.prefix (length shape.prefix) (length m.args) (length shape.delimiters) r.more le) (next_delimiter shape m) refl [] ∙
        ap (λ x. behind x (λ next. arguments_with shape.long (map (tokens_at texts) m.args ++ next ∷ []) (map (tokens_at texts) (drop (suc (length m.args)) shape.delimiters)))) (wants_argument shape.long (tokens_at texts (next_delimiter shape m)) (tokens_at texts m.list))
  ]

-- nothing is left
pub none_left : (a b c d : ℕ) → (nat_lt a b || nat_lt c d) ≡ false → (b ≤ a) × (d ≤ c)
none_left a b c d e = (grind (arith, nat_tests, e), grind (arith, nat_tests, e))

pub done : (texts : Table) (shape : Shape TokenCode) (m : Matched) → is_more shape m ≡ false → (more : List Token) → left texts shape m more ≡ Gives (map (tokens_at texts) m.args) more
done texts shape m e more = let n = none_left m.prefix (length shape.prefix) (length m.args) (length shape.delimiters) e in all_read texts shape m n.0 n.1 more

-- A token of an argument or its delimiter d; n is what is read with it
module _ (texts : Table) (shape : Shape TokenCode) (m : Matched) (r : Reads texts shape m) (le : length shape.prefix ≤ m.prefix) (t : TokenCode) (k : TokenWithin (length texts) t) (d : List TokenCode) (same : d ≡ next_delimiter shape m) where
  lt : length m.args < length shape.delimiters
  lt = one_left m.prefix (length shape.prefix) (length m.args) (length shape.delimiters) r.more le

  not_run : runs_away shape.long (tokens_at texts d) (tokens_at texts m.list) ≡ false
  not_run = ap (λ e. runs_away shape.long (tokens_at texts e) (tokens_at texts m.list)) same ∙ r.stands.par

  pub given_delimiter : TokensWithin (length texts) d
  given_delimiter = subst (TokensWithin (length texts)) (sym same) (All-get_or (TokensWithin (length texts)) shape.delimiters (length m.args) [] lt r.stands.within.delimiters)

  pub skip : skips (tokens_at texts d) (tokens_at texts m.list) (token_at texts t) ≡ true → (more : List Token) → left texts shape m (token_at texts t ∷ more) ≡ left texts shape m more
  skip e more =
      in_argument texts shape m le lt d same (token_at texts t ∷ more) ∙
      (ap (λ x. behind x (λ next. arguments_with shape.long (map (tokens_at texts) m.args ++ next ∷ []) (map (tokens_at texts) (drop (suc (length m.args)) shape.delimiters)))) (skipped shape.long (tokens_at texts d) (tokens_at texts m.list) (token_at texts t) more e) ∙
      sym (in_argument texts shape m le lt d same more))

  module _ (e : skips (tokens_at texts d) (tokens_at texts m.list) (token_at texts t) ≡ false) (n : Matched) (is : n ≡ record { prefix = m.prefix; args = m.args; list = m.list ++ t ∷ [] }) where
    tokens_of : tokens_at texts m.list ++ token_at texts t ∷ [] ≡ tokens_at texts n.list
    tokens_of = sym (ap (λ x. tokens_at texts x.list) is ∙ map-append (token_at texts) m.list (t ∷ []))

    runs_now : runs_away shape.long (tokens_at texts d) (tokens_at texts n.list) ≡ is_par (token_at texts t) && not (lets_par shape.long (tokens_at texts d))
    runs_now = ap (runs_away shape.long (tokens_at texts d)) (sym tokens_of) ∙ runs_last shape.long (tokens_at texts d) (tokens_at texts m.list) (token_at texts t) not_run

    step : (v : Verdict (List Token)) → verdict shape.long (tokens_at texts d) (tokens_at texts n.list) ≡ v → (more : List Token)
        → left texts shape m (token_at texts t ∷ more) ≡ behind (decided_or v more (argument_left shape.long (tokens_at texts d) (tokens_at texts n.list) more)) (λ next. arguments_with shape.long (map (tokens_at texts) m.args ++ next ∷ []) (map (tokens_at texts) (drop (suc (length m.args)) shape.delimiters)))
    step v f more =
        in_argument texts shape m le lt d same (token_at texts t ∷ more) ∙
        ap (λ x. behind x (λ next. arguments_with shape.long (map (tokens_at texts) m.args ++ next ∷ []) (map (tokens_at texts) (drop (suc (length m.args)) shape.delimiters))))
        (stepped shape.long (tokens_at texts d) (tokens_at texts m.list) (token_at texts t) more e ∙
        (ap (λ list. decided_or (verdict shape.long (tokens_at texts d) list) more (argument_left shape.long (tokens_at texts d) list more)) tokens_of ∙
        ap (λ w. decided_or w more (argument_left shape.long (tokens_at texts d) (tokens_at texts n.list) more)) f))

    pub extra_brace : open_behind 0 (tokens_at texts n.list) ≡ None → (more : List Token) → left texts shape m (token_at texts t ∷ more) ≡ Fails ExtraBrace
    extra_brace f more = step (Some (Err ExtraBrace)) (verdict_brace shape.long (tokens_at texts d) (tokens_at texts n.list) f) more

    module _ (depth : ℕ) (f : open_behind 0 (tokens_at texts n.list) ≡ Some depth) where
      pub runaway : is_par (token_at texts t) && not (lets_par shape.long (tokens_at texts d)) ≡ true → (more : List Token) → left texts shape m (token_at texts t ∷ more) ≡ Fails RunawayPar
      runaway h more = step (Some (Err RunawayPar)) (verdict_par shape.long (tokens_at texts d) (tokens_at texts n.list) depth f (runs_now ∙ h)) more

      module _ (h : is_par (token_at texts t) && not (lets_par shape.long (tokens_at texts d)) ≡ false) where
        decides : (a : Option (List Token)) → a ≡ argument_in (tokens_at texts d) (tokens_at texts n.list) → verdict shape.long (tokens_at texts d) (tokens_at texts n.list) ≡ option_map Ok a
        decides a i = verdict_of shape.long (tokens_at texts d) (tokens_at texts n.list) depth f (runs_now ∙ h) ∙ ap (option_map Ok) (sym i)

        pub goes_on : None ≡ argument_in (tokens_at texts d) (tokens_at texts n.list) → (more : List Token) → left texts shape m (token_at texts t ∷ more) ≡ left texts shape n more
        goes_on i more =
            step None (decides None i) more ∙
            (ap (λ list. behind (argument_left shape.long (tokens_at texts d) list more) (λ next. arguments_with shape.long (map (tokens_at texts) m.args ++ next ∷ []) (map (tokens_at texts) (drop (suc (length m.args)) shape.delimiters)))) (ap (λ x. tokens_at texts x.list) is) ∙
            (sym (in_argument texts shape (record { prefix = m.prefix; args = m.args; list = m.list ++ t ∷ [] }) le lt d same more) ∙
            ap (λ x. left texts shape x more) (sym is)))

        pub goes_stands : Stands texts shape n
        goes_stands = subst (Stands texts shape) (sym is) (record {
          numbered = r.stands.numbered;
          within = r.stands.within;
          args = r.stands.args;
          list = All-push (TokenWithin (length texts)) m.list t r.stands.list k;
          prefix = r.stands.prefix;
          before = λ less. absurd (omega (arith, le, less));
          few = r.stands.few;
          par = ap (λ e. runs_away shape.long (tokens_at texts e) (tokens_at texts (m.list ++ t ∷ []))) (sym same) ∙ (ap (λ x. runs_away shape.long (tokens_at texts d) (tokens_at texts x.list)) (sym is) ∙ (runs_now ∙ h));
        })

        module _ (a : List TokenCode) (q : Matched) (j : q ≡ record { prefix = n.prefix; args = n.args ++ a ∷ []; list = [] }) where
          whole : q ≡ record { prefix = m.prefix; args = m.args ++ a ∷ []; list = [] }
          whole = j ∙ ap (λ x. record { prefix = x.prefix; args = x.args ++ a ∷ []; list = [] }) is

          one_longer : length (m.args ++ a ∷ []) ≡ suc (length m.args)
          one_longer = omega (arith, length-append m.args (a ∷ []))

          pub next_begins : Some (tokens_at texts a) ≡ argument_in (tokens_at texts d) (tokens_at texts n.list) → (more : List Token) → left texts shape m (token_at texts t ∷ more) ≡ left texts shape q more
          next_begins i more =
              step (Some (Ok (tokens_at texts a))) (decides (Some (tokens_at texts a)) i) more ∙
              (with_left shape.long (map (tokens_at texts) m.args ++ tokens_at texts a ∷ []) (map (tokens_at texts) (drop (suc (length m.args)) shape.delimiters)) more ∙
              (ap₂ (λ (i : ℕ) (args : List (List Token)). arguments_left shape.long (map (tokens_at texts) (drop i shape.delimiters)) args [] more) (sym one_longer) (sym (map-append (tokens_at texts) m.args (a ∷ []))) ∙
              (sym (behind_prefix texts shape (record { prefix = m.prefix; args = m.args ++ a ∷ []; list = [] }) le more) ∙
              ap (λ x. left texts shape x more) (sym whole))))

          pub next_stands : TokensWithin (length texts) a → Stands texts shape q
          next_stands w = subst (Stands texts shape) (sym whole) (record {
            numbered = r.stands.numbered;
            within = r.stands.within;
            args = All-push (TokensWithin (length texts)) m.args a r.stands.args w;
            list = All-nil (TokenWithin (length texts));
            prefix = r.stands.prefix;
            before = λ less. absurd (omega (arith, le, less));
            few = omega (arith, one_longer, lt);
            par = refl;
          })
