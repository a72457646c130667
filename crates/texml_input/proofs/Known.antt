-- A token whose name is in the table adds nothing to it.
use Rattle.std.proofs.Common.{◌≡◌, ℕ, zero, suc, ◌≤◌, ◌<◌, cond, List, [], ◌∷◌, ◌++◌, map, length, get_or, refl, sym, ap, ◌∙◌, subst, arith, Some, Ok}
use Rattle.std.proofs.lemmas.List.Folds.{list_any_at}
use Rattle.std.proofs.lemmas.List.Elements.{All-head}
use Rattle.texml_token.specs.Token.{text_eq}
use Rattle.texml_token.specs.Numbers.{Table, TokenWithin, text_at, with_text, token_at, name_at}
use Rattle.texml_token.specs.declared.tokens.Token.{Token as TokenCode}
use Rattle.texml_token.specs.declared.tokens.Token.TheVariants as tokens
use Rattle.texml_token.proofs.Table.{text_same}
use Rattle.texml_mouth.specs.Seen.{table_behind}
use Rattle.texml_input.specs.Held.{Source, Plain, SourceWithin, SourcesWithin}
use Rattle.texml_input.specs.Turning.{TakesList, TakesToken, turn_names}
use Rattle.texml_input.specs.declared.turning.Turn.{Turn}
use Rattle.texml_input.specs.declared.turning.Turn.TheVariants as turn

known_name : (texts : Table) (n : ℕ) → n ≤ length texts → texts ≡ table_behind texts (Ok (Some (name_at texts n)))
known_name texts zero le = refl
known_name texts (suc k) le =
    let lt : k < length texts = omega arith in
    let there = list_any_at (text_eq (get_or texts k [])) texts k [] lt (text_same (get_or texts k [])) in
    sym (ap (λ b. cond b texts (texts ++ get_or texts k [] ∷ [])) there)

pub known_adds : (texts : Table) (t : TokenCode) → TokenWithin (length texts) t → texts ≡ table_behind texts (Ok (Some (token_at texts t)))
known_adds texts (tokens.Char c category) h = refl
known_adds texts (tokens.Active c) h = refl
known_adds texts (tokens.Param n) h = absurd h
known_adds texts (tokens.Named name) h = known_name texts name.0 h

pub known_front : (texts : Table) (all : List Source) (x : Source) (more : List Source) → all ≡ x ∷ more → SourcesWithin (length texts) all → SourceWithin (length texts) x
known_front texts all x more e h = All-head (SourceWithin (length texts)) x more (subst (SourcesWithin (length texts)) e h)

-- the first token of a list
pub known_taken : (texts : Table) (all : List Source) (list : List TokenCode) (more : List Source) (turn : Turn) (after : List Source) → all ≡ map Plain list ++ more → TakesList list more turn after
    → SourcesWithin (length texts) all → texts ≡ turn_names texts texts (Ok turn)
known_taken texts all list more (turn.Token t frozen) after e k h =
    known_adds texts t (known_front texts all (Plain t) (map Plain k.0 ++ more) (e ∙ ap (λ l. map Plain l ++ more) k.1) h)
known_taken texts all list more turn.Again after e k h = refl
known_taken texts all list more turn.Loaded after e k h = refl
known_taken texts all list more turn.Ended after e k h = refl
known_taken texts all list more turn.End after e k h = refl
