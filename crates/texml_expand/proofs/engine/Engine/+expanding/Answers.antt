use Rattle.std.proofs.Common.{arith, length, [], FitsSigned, w32, refl, sym, ap, subst, ◌∙◌, rules, pos, true, false, None, Some, Ok, Err, ◌∷◌, List, ◌≡◌}
use Rattle.std.specs.Fmt.{signed_decimal}
use Rattle.std.proofs.lemmas.Int.{to_z-of_z}
use Rattle.std.proofs.Common.{◌==◌, to_z, of_z}
use Rattle.texml_expand.specs.Contract.{outside, Local}
use Rattle.texml_token.specs.Numbers.{Extends, token_at, tokens_at, TokenWithin}
use Rattle.texml_token.proofs.Translation.{token_kept}
use Rattle.texml_expand.specs.Held.{Held, state_of, ok_at, read_at}
use Rattle.texml_expand.specs.Fronts.{macro_at, expandable_at, looked_at, ExpandableWithin}
use Rattle.texml_expand.specs.declared.variables.Index.TheVariants.{Character, Register}
use Rattle.texml_expand.specs.State.{give}
use Rattle.texml_expand.specs.Printed.{printed_tokens, roman_text}
use Rattle.texml_expand.specs.Variables.{a_character, a_register, key_of, index_of, Number, value_of}
use Rattle.texml_expand.specs.Quantities.{int_text, read_index, look, read_key, internal_of, internal, as_itself, shown}
use Rattle.texml_expand.specs.Expand.{front, level}
use Rattle.texml_expand.specs.Hearing.{hears, hears_part}
use Rattle.texml_expand.proofs.Lawful.{lawful_give, lawful_scan, lawful_fetch}
use Rattle.texml_expand.proofs.Looking.{lawful_character, lawful_register, value, lawful_value, lawful_index, lawful_look, lawful_key, lawful_internal_of, lawful_internal, counts, lawful_counts, lawful_take}
use Rattle.texml_expand.proofs.Doing.{by_new, did_silent, did_gets, does_silent, does_gets, does_as, does_now, does_stop, does_then, does_out, does_fault, did_out}
use Rattle.texml_expand.proofs.Rounds.{expand_same, expand_unnamed, expand_opens, index_as, front_did, given_as, begins_did, finish_did, expand_stops, expand_ungiven, expand_ends, fetch_stops, fetch_ends, fetch_plain, fetching_on, fetch_unexpanded, looked_as}
use Rattle.texml_scope.specs.Numbers.{key_at, meaning_at}
use Rattle.texml_expand.specs.VariableCodes.{internal_at}
use Rattle.texml_expand.specs.declared.machine.Value.TheVariants as worths
use Rattle.texml_expand.specs.declared.machine.Machine.TheVariants as machines
use Rattle.texml_expand.specs.Machine.{machine_rest, scanned_as, mapped}
use Rattle.texml_expand.proofs.Looks.{scalar_signed, not_internal, no_value, key_same, look_now, look_stops, look_done, look_behind, look_at, scan_stops, scan_unseen, scan_decides, scan_ends, scanning_on, scan_does, scanned_shrinks, decided_gives, end_gives}
use Rattle.std.specs.Option.{option_map}
use Rattle.texml_token.specs.declared.fault_code.TheConstants.{MISSING_NUMBER}
use Rattle.texml_expand.specs.Take.{take}
use Rattle.texml_expand.specs.Doing.{Does}
use Rattle.texml_expand.proofs.Total.{total}
use Rattle.texml_expand.proofs.Progress.{progress_itself}
use Rattle.texml_expand.proofs.Fronts.{kept_itself, begun_kept, opened_begun}
use Rattle.texml_scan.specs.Looked.{look_of}
use Rattle.texml_scan.specs.declared.looks.Held.TheVariants.{Nothing}
use Rattle.texml_expand.proofs.Stopping.{passed_on}
use Rattle.texml_expand.proofs.Running.{shrinks_none, shrinks_then, files_same, ok_same, owns_same}
use Rattle.texml_expand.proofs.Showing.{internal_stops, internal_ends, internal_out, internal_begins, the_stops, the_does}
use Rattle.texml_scan.specs.declared.looks.Look.{Look}
use Rattle.texml_scan.specs.Grammar.{verdict}
use Rattle.texml_expand.proofs.Worth.{scan_stop, scan_of, scan_gives, gives_of, int_same}
use Rattle.texml_expand.specs.Branches.{choose, choose_case}
use Rattle.texml_expand.specs.Branches.{If, IfCat, IfX, IfNum, IfDim, IfOdd, IfTrue, IfFalse, IfCase}
use Rattle.texml_expand.specs.Arguments.{called}
use Rattle.texml_expand.specs.Quantities.{dimension_text, the}
use Rattle.texml_expand.specs.Expansion.{puts, string, job, no_expand}
use Rattle.texml_expand.specs.Expand.{decimal, roman_numeral}
use Rattle.texml_expand.specs.Conditionals.{two_faces, same_meanings, compares, compared, number, is_odd, open_test, chosen, part_end}
use Rattle.texml_expand.proofs.Calling.{called_decided, called_leads}
use Rattle.texml_expand.proofs.Lawful.{lawful_silent}
use Rattle.texml_expand.proofs.Levels.{lawful_decimal, lawful_roman_numeral}
use Rattle.texml_expand.proofs.Looking.{lawful_the}
use Rattle.texml_expand.proofs.Giving.{lawful_puts, lawful_string, lawful_job, lawful_no_expand}
use Rattle.texml_expand.proofs.Branching.{lawful_two_faces, lawful_same_meanings, lawful_compared, lawful_number, lawful_open_test, lawful_chosen, lawful_part_end}
use Rattle.texml_expand.proofs.Copying.{copy_stops, copy_unread, copy_ends, copied_did}
use Rattle.texml_expand.proofs.Gifts.{puts_stops, puts_does, ok_then, ended_begun}
use Rattle.texml_expand.proofs.Testing.{face_stops, face_ends, face_out, face_does, faces_stop, faces_do, first_face_stops, dimension_stops, dimension_does, amount_as, relation_stops, relation_does, compared_first, compared_second, compared_third, compared_does, choice_stops, choice_does, tested_as, unopened, untested, unchosen, conditional_does}
use Rattle.texml_expand.proofs.Worth.{dimen_same}
use Rattle.texml_token.specs.declared.fault_code.TheConstants.{FILE_ENDED}
use Rattle.texml_token.proofs.Translation.{token_more}
use Rattle.texml_expand.specs.Calls.{Input, Puts}
use Rattle.texml_expand.specs.Front as fronts
use Rattle.texml_expand.specs.Expansion.{one_token, behind_first}
use Rattle.texml_expand.specs.Names.{name_of}
use Rattle.texml_expand.specs.Fronts.{gift_at}
use Rattle.texml_expand.proofs.Standing.{lawful_front}
use Rattle.texml_expand.proofs.Giving.{lawful_one_token, lawful_behind_first, lawful_name_of}
use Rattle.texml_expand.proofs.Running.{ok_puts}
use Rattle.texml_expand.proofs.Behind.{gathered_left, yields_ends, ended_shrinks, ended_ends, after_stops, after_first, second_stops, second_is, behind_plain, behind_stops, behind_expands, name_stops, name_does}
use Rattle.texml_expand.specs.Front.{Plain}
use Rattle.texml_expand.specs.Gathering.{copies}
use Rattle.texml_expand.proofs.Gathered.{gather_stops, gather_ends, gather_broken, gather_unleft, gather_yields, gather_refuses, gathers_token, gathers_expansion, gather_unexpanded, gather_short, once_stops, once_expanded}
use Rattle.std.specs.Prelude.{string_bytes}
use Rattle.texml_expand.specs.Include.{peeked, bytes_of, argument_alone, characters, end_input}
use Rattle.texml_expand.proofs.Including.{lawful_peeked, lawful_argument_alone, lawful_characters, lawful_end_input}
use Rattle.texml_expand.proofs.FileNames.{name_unseen, name_seen, plain_stops, plain_does, argument_stops, argument_unread, argument_does, left_stops, left_does, up_does}
use Rattle.texml_input.specs.Held.{IsAtFence}
use Rattle.texml_expand.specs.contracts.engine.Engine.{the_view}
use Rattle.texml_expand.specs.declared.gathering.Gathering.TheVariants.{All}
use Rattle.texml_expand.proofs.engine.Engine.+expanding.Goals as goal

pub expand-returns-clause-does : goal.expand-returns-clause-does
expand-returns-clause-does g t c =
    let T = g.T.Teller in
    let F = g.F.Files in
    let b = c.in_ok-begin.ensures in
    let l = c.in_ok-gift.ensures in
    let e = c.end.ensures in
    let mine = c.args.self.now in
    let now = c.given.new.self in
    let d = begins_did (hears T.wanting T.heard) (hears_part T.wanting T.part) _ mine c.begin.new.self (outside (F.shelf c.args.files.now) (F.faults c.args.files.now) (T.faults c.args.tell.now) (T.loan c.args.tell.now)) c.args.tell.now c.requires.sound b.begins b.kept b.is b.within b.limit b.progress b.files c.requires.owns in
    let same = ap (λ (h : Held). expandable_at h.names c.args.found) (sym b.is) in
    let named = ap (λ (h : Held). token_at h.names c.args.token) (sym b.is) in
    let k = given_as (hears T.wanting T.heard) (hears_part T.wanting T.part) _ (token_at mine.names c.args.token) _ (expandable_at mine.names c.args.found) _ _ _ _ _ _ _ named same l.does in
    let names = subst (λ (h : Held). Extends h.names now.names) b.is l.does.progress.names in
    let u = finish_did (hears T.wanting T.heard) (hears_part T.wanting T.part) (token_at mine.names c.args.token) _ c.in_ok-gift.gift _ now c.end.new.self _ _ _ _ _ _ _ _ (token_kept mine.names now.names names c.args.token c.requires.token) e.finishes e.stops e.keeps e.limit e.progress e.files l.does.holds.owns in
    expand_ends (hears T.wanting T.heard) (hears_part T.wanting T.part) (token_at mine.names c.args.token) (expandable_at mine.names c.args.found) _ _ _ _ _ _ _ _ _ _ _ _ d k u

pub expand-returns-clause-begins : goal.expand-returns-clause-begins
expand-returns-clause-begins g t c =
    let b = c.in_ok-begin.ensures in
    let e = c.end.ensures in
    ended_begun _ _ c.args.self.now c.begin.new.self c.given.new.self c.end.new.self _ b.is b.within c.in_ok-gift.ensures.lower e.nesting e.begun e.progress.limit

pub expand-returns-in_err-begin-clause-does : goal.expand-returns-in_err-begin-clause-does
expand-returns-in_err-begin-clause-does g t c =
    let T = g.T.Teller in
    let F = g.F.Files in
    let b = c.in_err-begin.ensures in
    let mine = c.args.self.now in
    let d = begins_did (hears T.wanting T.heard) (hears_part T.wanting T.part) _ mine c.begin.new.self (outside (F.shelf c.args.files.now) (F.faults c.args.files.now) (T.faults c.args.tell.now) (T.loan c.args.tell.now)) c.args.tell.now c.requires.sound b.begins b.kept tt tt b.limit b.progress b.files c.requires.owns in
    let h = expand_stops (hears T.wanting T.heard) (hears_part T.wanting T.part) (token_at mine.names c.args.token) (expandable_at mine.names c.args.found) _ _ _ _ _ d in
    rw (passed_on c.from_residual.result c.in_err-begin.field-0.0 c.from_residual.ensures) h

pub expand-returns-in_err-gift-clause-does : goal.expand-returns-in_err-gift-clause-does
expand-returns-in_err-gift-clause-does g t c =
    let T = g.T.Teller in
    let F = g.F.Files in
    let b = c.in_ok-begin.ensures in
    let mine = c.args.self.now in
    let d = begins_did (hears T.wanting T.heard) (hears_part T.wanting T.part) _ mine c.begin.new.self (outside (F.shelf c.args.files.now) (F.faults c.args.files.now) (T.faults c.args.tell.now) (T.loan c.args.tell.now)) c.args.tell.now c.requires.sound b.begins b.kept b.is b.within b.limit b.progress b.files c.requires.owns in
    let same = ap (λ (h : Held). expandable_at h.names c.args.found) (sym b.is) in
    let named = ap (λ (h : Held). token_at h.names c.args.token) (sym b.is) in
    let k = given_as (hears T.wanting T.heard) (hears_part T.wanting T.part) _ (token_at mine.names c.args.token) _ (expandable_at mine.names c.args.found) _ _ _ _ _ _ _ named same c.in_err-gift.ensures.does in
    let h = expand_ungiven (hears T.wanting T.heard) (hears_part T.wanting T.part) (token_at mine.names c.args.token) (expandable_at mine.names c.args.found) _ _ _ _ _ _ _ _ d k in
    rw (passed_on c.from_residual-in_err-gift.result c.in_err-gift.field-0.0 c.from_residual-in_err-gift.ensures) h

pub fetch_on-fronts-preserved : goal.fetch_on-fronts-preserved
fetch_on-fronts-preserved g t c =
    let T = g.T.Teller in
    let F = g.F.Files in
    let e = c.in_ok-front.ensures in
    let d = front_did (hears T.wanting T.heard) (hears_part T.wanting T.part) _ _ c.fronts.self c.front.new.self _ _ _ _ (T.faults c.fronts.tell) (T.loan c.fronts.tell) c.fronts.tell c.in-Expands.is e.gets in
    let x = c.in_ok-expand-in-Expands.ensures in
    fetching_on (hears T.wanting T.heard) (hears_part T.wanting T.part) _ _ _ _ _ _ _ _ _ _ _ _ _ c.fronts.invariant d (rw c.in-Expands.is at e.lower) x.does x.begins

pub fetch_on-returns-in-Nothing-clause-does : goal.fetch_on-returns-in-Nothing-clause-does
fetch_on-returns-in-Nothing-clause-does g t c =
    let T = g.T.Teller in
    let F = g.F.Files in
    let e = c.in_ok-front.ensures in
    let d = front_did (hears T.wanting T.heard) (hears_part T.wanting T.part) _ _ c.fronts.self c.front.new.self _ _ _ _ (T.faults c.fronts.tell) (T.loan c.fronts.tell) c.fronts.tell c.in-Nothing.is e.gets in
    fetch_ends (hears T.wanting T.heard) (hears_part T.wanting T.part) _ _ _ _ _ _ _ _ c.fronts.invariant d

pub fetch_on-returns-in-Plain-clause-does : goal.fetch_on-returns-in-Plain-clause-does
fetch_on-returns-in-Plain-clause-does g t c =
    let T = g.T.Teller in
    let F = g.F.Files in
    let e = c.in_ok-front.ensures in
    let d = front_did (hears T.wanting T.heard) (hears_part T.wanting T.part) _ _ c.fronts.self c.front.new.self _ _ _ _ (T.faults c.fronts.tell) (T.loan c.fronts.tell) c.fronts.tell c.in-Plain.is e.gets in
    fetch_plain (hears T.wanting T.heard) (hears_part T.wanting T.part) (read_at c.front.new.self.names c.in-Plain.read) _ _ _ _ _ _ _ _ c.fronts.invariant d

pub fetch_on-returns-in_err-expand-in-Expands-clause-does : goal.fetch_on-returns-in_err-expand-in-Expands-clause-does
fetch_on-returns-in_err-expand-in-Expands-clause-does g t c =
    let T = g.T.Teller in
    let F = g.F.Files in
    let e = c.in_ok-front.ensures in
    let d = front_did (hears T.wanting T.heard) (hears_part T.wanting T.part) _ _ c.fronts.self c.front.new.self _ _ _ _ (T.faults c.fronts.tell) (T.loan c.fronts.tell) c.fronts.tell c.in-Expands.is e.gets in
    let h = fetch_unexpanded (hears T.wanting T.heard) (hears_part T.wanting T.part) _ _ _ _ _ _ _ _ _ _ _ _ _ _ c.fronts.invariant d c.in_err-expand-in-Expands.ensures.does in
    search (rules, h)

pub fetch_on-returns-in_err-front-clause-does : goal.fetch_on-returns-in_err-front-clause-does
fetch_on-returns-in_err-front-clause-does g t c =
    let T = g.T.Teller in
    let F = g.F.Files in
    let e = c.in_err-front.ensures in
    let d = did_gets (hears T.wanting T.heard) (hears_part T.wanting T.part) front _ c.fronts.self c.front.new.self _ _ _ _ (T.faults c.fronts.tell) (T.loan c.fronts.tell) c.fronts.tell e.gets in
    let h = fetch_stops (hears T.wanting T.heard) (hears_part T.wanting T.part) _ _ _ _ _ _ _ _ _ c.fronts.invariant d in
    search (rules, h)

pub decimal-returns-in_err-value-clause-does : goal.decimal-returns-in_err-value-clause-does
decimal-returns-in_err-value-clause-does g t c =
    let T = g.T.Teller in
    let F = g.F.Files in
    let d = does_stop (hears T.wanting T.heard) (hears_part T.wanting T.part) (λ c. c.scan int_text []) (λ i c. give (printed_tokens (signed_decimal i))) (lawful_scan int_text) (λ i. lawful_give (printed_tokens (signed_decimal i))) _ _ _ _ _ _ _ c.in_err-value.ensures.does in
    search (rules, d)

pub decimal-returns-clause-does : goal.decimal-returns-clause-does
decimal-returns-clause-does g t c =
    let T = g.T.Teller in
    let F = g.F.Files in
    let e = c.number.ensures in
    let mid = c.int.new.self in
    let new = c.number.new.self in
    let tell = c.int.new.tell in
    let files = c.int.new.files in
    let i = c.in_ok-value.value in
    let fits : FitsSigned w32 i = search rules in
    let d = does_as (hears T.wanting T.heard) (hears_part T.wanting T.part) (tokens_at new.names) (λ c. give (printed_tokens (signed_decimal i))) (lawful_give (printed_tokens (signed_decimal i))) c.number.result mid new (outside (F.shelf files) (F.faults files) (T.faults tell) (T.loan tell)) tell (by_new tokens_at (give (printed_tokens (signed_decimal i))) c.number.result mid new (subst (λ z. Local (give (printed_tokens (signed_decimal z))) (ok_at (tokens_at mid.names) c.number.result) mid new) (to_z-of_z w32 i fits) e.writes) e.same) e.kept e.limit e.keeps e.progress e.files c.in_ok-value.ensures.does.holds.owns in
    (does_then (hears T.wanting T.heard) (hears_part T.wanting T.part) (λ c. c.scan int_text []) (λ i c. give (printed_tokens (signed_decimal i))) (lawful_scan int_text) (λ i. lawful_give (printed_tokens (signed_decimal i))) i _ _ _ _ _ _ _ _ _ _ c.in_ok-value.ensures.does d)

pub roman-returns-in_err-value-clause-does : goal.roman-returns-in_err-value-clause-does
roman-returns-in_err-value-clause-does g t c =
    let T = g.T.Teller in
    let F = g.F.Files in
    let d = does_stop (hears T.wanting T.heard) (hears_part T.wanting T.part) (λ c. c.scan int_text []) (λ i c. give (printed_tokens (roman_text i))) (lawful_scan int_text) (λ i. lawful_give (printed_tokens (roman_text i))) _ _ _ _ _ _ _ c.in_err-value.ensures.does in
    search (rules, d)

pub roman-returns-clause-does : goal.roman-returns-clause-does
roman-returns-clause-does g t c =
    let T = g.T.Teller in
    let F = g.F.Files in
    let e = c.roman_numeral.ensures in
    let mid = c.int.new.self in
    let new = c.roman_numeral.new.self in
    let tell = c.int.new.tell in
    let files = c.int.new.files in
    let i = c.in_ok-value.value in
    let fits : FitsSigned w32 i = search rules in
    let d = does_as (hears T.wanting T.heard) (hears_part T.wanting T.part) (tokens_at new.names) (λ c. give (printed_tokens (roman_text i))) (lawful_give (printed_tokens (roman_text i))) c.roman_numeral.result mid new (outside (F.shelf files) (F.faults files) (T.faults tell) (T.loan tell)) tell (by_new tokens_at (give (printed_tokens (roman_text i))) c.roman_numeral.result mid new (subst (λ z. Local (give (printed_tokens (roman_text z))) (ok_at (tokens_at mid.names) c.roman_numeral.result) mid new) (to_z-of_z w32 i fits) e.writes) e.same) e.kept e.limit e.keeps e.progress e.files c.in_ok-value.ensures.does.holds.owns in
    (does_then (hears T.wanting T.heard) (hears_part T.wanting T.part) (λ c. c.scan int_text []) (λ i c. give (printed_tokens (roman_text i))) (lawful_scan int_text) (λ i. lawful_give (printed_tokens (roman_text i))) i _ _ _ _ _ _ _ _ _ _ c.in_ok-value.ensures.does d)

pub given-returns-in-Call-clause-does : goal.given-returns-in-Call-clause-does
given-returns-in-Call-clause-does g t c =
    let T = g.T.Teller in
    let F = g.F.Files in
    let mine = c.args.self.now in
    let tok = token_at mine.names c.args.token in
    let m = macro_at mine.names c.in-Call.found in
    given_as (hears T.wanting T.heard) (hears_part T.wanting T.part) tok tok _ (expandable_at mine.names c.args.found) _ _ _ _ _ _ _ refl (ap (expandable_at mine.names) c.in-Call.is) (does_gets (hears T.wanting T.heard) (hears_part T.wanting T.part) (λ c'. puts (called m)) (lawful_puts (λ c'. called m) (lawful_silent (called m) (called_decided m) (called_leads m))) _ mine c.called.new.self _ _ _ _ (T.faults c.args.tell.now) (T.loan c.args.tell.now) c.args.tell.now c.called.ensures.gets)

pub given-returns-in_err-list-in-Number-clause-does : goal.given-returns-in_err-list-in-Number-clause-does
given-returns-in_err-list-in-Number-clause-does g t c =
    let T = g.T.Teller in
    let F = g.F.Files in
    let mine = c.args.self.now in
    let tok = token_at mine.names c.args.token in
    let d = puts_stops (hears T.wanting T.heard) (hears_part T.wanting T.part) decimal lawful_decimal _ _ _ _ _ _ _ c.in_err-list-in-Number.ensures.does in
    let h = given_as (hears T.wanting T.heard) (hears_part T.wanting T.part) tok tok _ (expandable_at mine.names c.args.found) _ _ _ _ _ _ _ refl (ap (expandable_at mine.names) c.in-Number.is) d in
    rw (passed_on c.from_residual.result c.in_err-list-in-Number.field-0.0 c.from_residual.ensures) h

pub given-returns-in_ok-list-in-Number-clause-does : goal.given-returns-in_ok-list-in-Number-clause-does
given-returns-in_ok-list-in-Number-clause-does g t c =
    let T = g.T.Teller in
    let F = g.F.Files in
    let mine = c.args.self.now in
    let tok = token_at mine.names c.args.token in
    let d = puts_does (hears T.wanting T.heard) (hears_part T.wanting T.part) decimal lawful_decimal _ _ _ _ _ _ _ c.in_ok-list-in-Number.ensures.does in
    given_as (hears T.wanting T.heard) (hears_part T.wanting T.part) tok tok _ (expandable_at mine.names c.args.found) _ _ _ _ _ _ _ refl (ap (expandable_at mine.names) c.in-Number.is) d

pub given-returns-in_err-list-in-RomanNumeral-clause-does : goal.given-returns-in_err-list-in-RomanNumeral-clause-does
given-returns-in_err-list-in-RomanNumeral-clause-does g t c =
    let T = g.T.Teller in
    let F = g.F.Files in
    let mine = c.args.self.now in
    let tok = token_at mine.names c.args.token in
    let d = puts_stops (hears T.wanting T.heard) (hears_part T.wanting T.part) roman_numeral lawful_roman_numeral _ _ _ _ _ _ _ c.in_err-list-in-RomanNumeral.ensures.does in
    let h = given_as (hears T.wanting T.heard) (hears_part T.wanting T.part) tok tok _ (expandable_at mine.names c.args.found) _ _ _ _ _ _ _ refl (ap (expandable_at mine.names) c.in-RomanNumeral.is) d in
    rw (passed_on c.from_residual-in_err-list-in-RomanNumeral.result c.in_err-list-in-RomanNumeral.field-0.0 c.from_residual-in_err-list-in-RomanNumeral.ensures) h

pub given-returns-in_ok-list-in-RomanNumeral-clause-does : goal.given-returns-in_ok-list-in-RomanNumeral-clause-does
given-returns-in_ok-list-in-RomanNumeral-clause-does g t c =
    let T = g.T.Teller in
    let F = g.F.Files in
    let mine = c.args.self.now in
    let tok = token_at mine.names c.args.token in
    let d = puts_does (hears T.wanting T.heard) (hears_part T.wanting T.part) roman_numeral lawful_roman_numeral _ _ _ _ _ _ _ c.in_ok-list-in-RomanNumeral.ensures.does in
    given_as (hears T.wanting T.heard) (hears_part T.wanting T.part) tok tok _ (expandable_at mine.names c.args.found) _ _ _ _ _ _ _ refl (ap (expandable_at mine.names) c.in-RomanNumeral.is) d

pub given-returns-in-EndInput-clause-does : goal.given-returns-in-EndInput-clause-does
given-returns-in-EndInput-clause-does g t c =
    let T = g.T.Teller in
    let F = g.F.Files in
    let mine = c.args.self.now in
    let new = c.end_input.new.self in
    let e = c.end_input.ensures in
    let shelf = F.shelf c.args.files.now in
    let out = outside shelf (F.faults c.args.files.now) (T.faults c.args.tell.now) (T.loan c.args.tell.now) in
    given_as (hears T.wanting T.heard) (hears_part T.wanting T.part) _ (token_at mine.names c.args.token) _ _ _ _ _ _ _ _ _ refl (ap (expandable_at mine.names) c.in-EndInput.is)
    (does_silent (hears T.wanting T.heard) (hears_part T.wanting T.part) (λ c'. end_input) lawful_end_input (Ok (gift_at new.names c.end_input.result)) mine new out c.args.tell.now (e.ends shelf) (e.running ∙ c.requires.running) tt e.keeps e.progress e.files c.requires.owns)

pub given-returns-in_err-list-in-The-clause-does : goal.given-returns-in_err-list-in-The-clause-does
given-returns-in_err-list-in-The-clause-does g t c =
    let T = g.T.Teller in
    let F = g.F.Files in
    let mine = c.args.self.now in
    let tok = token_at mine.names c.args.token in
    let d = puts_stops (hears T.wanting T.heard) (hears_part T.wanting T.part) the lawful_the _ _ _ _ _ _ _ c.in_err-list-in-The.ensures.does in
    let h = given_as (hears T.wanting T.heard) (hears_part T.wanting T.part) tok tok _ (expandable_at mine.names c.args.found) _ _ _ _ _ _ _ refl (ap (expandable_at mine.names) c.in-The.is) d in
    rw (passed_on c.from_residual-in_err-list-in-The.result c.in_err-list-in-The.field-0.0 c.from_residual-in_err-list-in-The.ensures) h

pub given-returns-in_ok-list-in-The-clause-does : goal.given-returns-in_ok-list-in-The-clause-does
given-returns-in_ok-list-in-The-clause-does g t c =
    let T = g.T.Teller in
    let F = g.F.Files in
    let mine = c.args.self.now in
    let tok = token_at mine.names c.args.token in
    let d = puts_does (hears T.wanting T.heard) (hears_part T.wanting T.part) the lawful_the _ _ _ _ _ _ _ c.in_ok-list-in-The.ensures.does in
    given_as (hears T.wanting T.heard) (hears_part T.wanting T.part) tok tok _ (expandable_at mine.names c.args.found) _ _ _ _ _ _ _ refl (ap (expandable_at mine.names) c.in-The.is) d

pub given-returns-in_err-list-in-String-clause-does : goal.given-returns-in_err-list-in-String-clause-does
given-returns-in_err-list-in-String-clause-does g t c =
    let T = g.T.Teller in
    let F = g.F.Files in
    let mine = c.args.self.now in
    let tok = token_at mine.names c.args.token in
    let d = puts_stops (hears T.wanting T.heard) (hears_part T.wanting T.part) (λ c'. string) lawful_string _ _ _ _ _ _ _ (does_gets (hears T.wanting T.heard) (hears_part T.wanting T.part) (λ c'. string) lawful_string _ mine c.string.new.self _ _ _ _ (T.faults c.args.tell.now) (T.loan c.args.tell.now) c.args.tell.now c.in_err-list-in-String.ensures.gets) in
    let h = given_as (hears T.wanting T.heard) (hears_part T.wanting T.part) tok tok _ (expandable_at mine.names c.args.found) _ _ _ _ _ _ _ refl (ap (expandable_at mine.names) c.in-String.is) d in
    search (rules, h)

pub given-returns-in_ok-list-in-String-clause-does : goal.given-returns-in_ok-list-in-String-clause-does
given-returns-in_ok-list-in-String-clause-does g t c =
    let T = g.T.Teller in
    let F = g.F.Files in
    let mine = c.args.self.now in
    let tok = token_at mine.names c.args.token in
    let d = puts_does (hears T.wanting T.heard) (hears_part T.wanting T.part) (λ c'. string) lawful_string _ _ _ _ _ _ _ (does_gets (hears T.wanting T.heard) (hears_part T.wanting T.part) (λ c'. string) lawful_string _ mine c.string.new.self _ _ _ _ (T.faults c.args.tell.now) (T.loan c.args.tell.now) c.args.tell.now c.in_ok-list-in-String.ensures.gets) in
    given_as (hears T.wanting T.heard) (hears_part T.wanting T.part) tok tok _ (expandable_at mine.names c.args.found) _ _ _ _ _ _ _ refl (ap (expandable_at mine.names) c.in-String.is) d

pub given-returns-in_err-list-in-JobName-clause-does : goal.given-returns-in_err-list-in-JobName-clause-does
given-returns-in_err-list-in-JobName-clause-does g t c =
    let T = g.T.Teller in
    let F = g.F.Files in
    let mine = c.args.self.now in
    let tok = token_at mine.names c.args.token in
    let d = puts_stops (hears T.wanting T.heard) (hears_part T.wanting T.part) (λ c'. job) lawful_job _ _ _ _ _ _ _ (does_silent (hears T.wanting T.heard) (hears_part T.wanting T.part) (λ c'. job) lawful_job _ mine c.job.new.self (outside (F.shelf c.args.files.now) (F.faults c.args.files.now) (T.faults c.args.tell.now) (T.loan c.args.tell.now)) c.args.tell.now (c.in_err-list-in-JobName.ensures.writes (F.shelf c.args.files.now)) c.in_err-list-in-JobName.ensures.kept c.in_err-list-in-JobName.ensures.limit c.in_err-list-in-JobName.ensures.keeps c.in_err-list-in-JobName.ensures.progress c.in_err-list-in-JobName.ensures.files c.requires.owns) in
    let h = given_as (hears T.wanting T.heard) (hears_part T.wanting T.part) tok tok _ (expandable_at mine.names c.args.found) _ _ _ _ _ _ _ refl (ap (expandable_at mine.names) c.in-JobName.is) d in
    search (rules, h)

pub given-returns-in_ok-list-in-JobName-clause-does : goal.given-returns-in_ok-list-in-JobName-clause-does
given-returns-in_ok-list-in-JobName-clause-does g t c =
    let T = g.T.Teller in
    let F = g.F.Files in
    let mine = c.args.self.now in
    let tok = token_at mine.names c.args.token in
    let d = puts_does (hears T.wanting T.heard) (hears_part T.wanting T.part) (λ c'. job) lawful_job _ _ _ _ _ _ _ (does_silent (hears T.wanting T.heard) (hears_part T.wanting T.part) (λ c'. job) lawful_job _ mine c.job.new.self (outside (F.shelf c.args.files.now) (F.faults c.args.files.now) (T.faults c.args.tell.now) (T.loan c.args.tell.now)) c.args.tell.now (by_new tokens_at job (Ok c.in_ok-list-in-JobName.list) mine c.job.new.self c.in_ok-list-in-JobName.ensures.writes c.in_ok-list-in-JobName.ensures.same (F.shelf c.args.files.now)) c.in_ok-list-in-JobName.ensures.kept c.in_ok-list-in-JobName.ensures.limit c.in_ok-list-in-JobName.ensures.keeps c.in_ok-list-in-JobName.ensures.progress c.in_ok-list-in-JobName.ensures.files c.requires.owns) in
    given_as (hears T.wanting T.heard) (hears_part T.wanting T.part) tok tok _ (expandable_at mine.names c.args.found) _ _ _ _ _ _ _ refl (ap (expandable_at mine.names) c.in-JobName.is) d

pub given-returns-in-ExpandAfter-clause-does : goal.given-returns-in-ExpandAfter-clause-does
given-returns-in-ExpandAfter-clause-does g t c =
    let T = g.T.Teller in
    let F = g.F.Files in
    let mine = c.args.self.now in
    let tok = token_at mine.names c.args.token in
    given_as (hears T.wanting T.heard) (hears_part T.wanting T.part) tok tok _ (expandable_at mine.names c.args.found) _ _ _ _ _ _ _ refl (ap (expandable_at mine.names) c.in-ExpandAfter.is) c.expand_after.ensures.does

pub given-returns-in-CsName-clause-does : goal.given-returns-in-CsName-clause-does
given-returns-in-CsName-clause-does g t c =
    let T = g.T.Teller in
    let F = g.F.Files in
    let mine = c.args.self.now in
    let tok = token_at mine.names c.args.token in
    given_as (hears T.wanting T.heard) (hears_part T.wanting T.part) tok tok _ (expandable_at mine.names c.args.found) _ _ _ _ _ _ _ refl (ap (expandable_at mine.names) c.in-CsName.is) c.cs_name.ensures.does

pub given-returns-in-Conditional-clause-does : goal.given-returns-in-Conditional-clause-does
given-returns-in-Conditional-clause-does g t c =
    let T = g.T.Teller in
    let F = g.F.Files in
    let mine = c.args.self.now in
    let tok = token_at mine.names c.args.token in
    given_as (hears T.wanting T.heard) (hears_part T.wanting T.part) tok tok _ (expandable_at mine.names c.args.found) _ _ _ _ _ _ _ refl (ap (expandable_at mine.names) c.in-Conditional.is) c.conditional.ensures.does

pub given-returns-in-NoExpand-clause-does : goal.given-returns-in-NoExpand-clause-does
given-returns-in-NoExpand-clause-does g t c =
    let T = g.T.Teller in
    let F = g.F.Files in
    let mine = c.args.self.now in
    let tok = token_at mine.names c.args.token in
    given_as (hears T.wanting T.heard) (hears_part T.wanting T.part) tok tok _ (expandable_at mine.names c.args.found) _ _ _ _ _ _ _ refl (ap (expandable_at mine.names) c.in-NoExpand.is) (does_gets (hears T.wanting T.heard) (hears_part T.wanting T.part) (λ c'. no_expand) lawful_no_expand _ mine c.no_expand.new.self _ _ _ _ (T.faults c.args.tell.now) (T.loan c.args.tell.now) c.args.tell.now c.no_expand.ensures.gets)

pub given-returns-in-PartEnd-clause-does : goal.given-returns-in-PartEnd-clause-does
given-returns-in-PartEnd-clause-does g t c =
    let T = g.T.Teller in
    let F = g.F.Files in
    let mine = c.args.self.now in
    let tok = token_at mine.names c.args.token in
    given_as (hears T.wanting T.heard) (hears_part T.wanting T.part) tok tok _ (expandable_at mine.names c.args.found) _ _ _ _ _ _ _ refl (ap (expandable_at mine.names) c.in-PartEnd.is) (does_gets (hears T.wanting T.heard) (hears_part T.wanting T.part) (λ c'. part_end tok c.in-PartEnd.word) (lawful_part_end tok c.in-PartEnd.word) _ mine c.part_end.new.self _ _ _ _ (T.faults c.args.tell.now) (T.loan c.args.tell.now) c.args.tell.now c.part_end.ensures.gets)

pub index-returns-in-Alone-clause-does : goal.index-returns-in-Alone-clause-does
index-returns-in-Alone-clause-does g t c =
    let T = g.T.Teller in
    let F = g.F.Files in
    rw c.in-Alone.is (does_now (hears T.wanting T.heard) (hears_part T.wanting T.part) 0 c.args.self.now (outside (F.shelf c.args.files.now) (F.faults c.args.files.now) (T.faults c.args.tell.now) (T.loan c.args.tell.now)) c.args.tell.now c.requires.sound c.requires.running c.requires.owns)

pub index-returns-in_err-number-in-Character-clause-does : goal.index-returns-in_err-number-in-Character-clause-does
index-returns-in_err-number-in-Character-clause-does g t c =
    let T = g.T.Teller in
    let F = g.F.Files in
    let d = does_stop (hears T.wanting T.heard) (hears_part T.wanting T.part) (λ c. c.scan int_text []) (λ i c. a_character i) (lawful_scan int_text) lawful_character _ _ _ _ _ _ _ c.in_err-number-in-Character.ensures.does in
    let h = index_as (hears T.wanting T.heard) (hears_part T.wanting T.part) Character c.args.index _ _ _ _ _ _ _ c.in-Character.is d in
    rw (passed_on c.from_residual.result c.in_err-number-in-Character.field-0.0 c.from_residual.ensures) h

pub index-returns-in_err-number-in-Register-clause-does : goal.index-returns-in_err-number-in-Register-clause-does
index-returns-in_err-number-in-Register-clause-does g t c =
    let T = g.T.Teller in
    let F = g.F.Files in
    let d = does_stop (hears T.wanting T.heard) (hears_part T.wanting T.part) (λ c. c.scan int_text []) (λ i c. a_register i) (lawful_scan int_text) lawful_register _ _ _ _ _ _ _ c.in_err-number-in-Register.ensures.does in
    let h = index_as (hears T.wanting T.heard) (hears_part T.wanting T.part) Register c.args.index _ _ _ _ _ _ _ c.in-Register.is d in
    rw (passed_on c.from_residual-in_err-number-in-Register.result c.in_err-number-in-Register.field-0.0 c.from_residual-in_err-number-in-Register.ensures) h

pub index-returns-in_ok-number-in-Character-clause-does : goal.index-returns-in_ok-number-in-Character-clause-does
index-returns-in_ok-number-in-Character-clause-does g t c =
    let T = g.T.Teller in
    let F = g.F.Files in
    let e = c.character.ensures in
    let mid = c.int.new.self in
    let new = c.character.new.self in
    let tell = c.int.new.tell in
    let files = c.int.new.files in
    let i = c.in_ok-number-in-Character.number in
    let fits : FitsSigned w32 i = search rules in
    let d = does_silent (hears T.wanting T.heard) (hears_part T.wanting T.part) (λ c. a_character i) (lawful_character i) c.character.result mid new (outside (F.shelf files) (F.faults files) (T.faults tell) (T.loan tell)) tell (subst (λ z. Local (a_character z) c.character.result mid new) (to_z-of_z w32 i fits) e.is (F.shelf files)) e.kept e.limit e.keeps e.progress e.files c.in_ok-number-in-Character.ensures.does.holds.owns in
    rw c.in-Character.is (does_then (hears T.wanting T.heard) (hears_part T.wanting T.part) (λ c. c.scan int_text []) (λ i c. a_character i) (lawful_scan int_text) lawful_character i _ _ _ _ _ _ _ _ _ _ c.in_ok-number-in-Character.ensures.does d)

pub index-returns-in_ok-number-in-Register-clause-does : goal.index-returns-in_ok-number-in-Register-clause-does
index-returns-in_ok-number-in-Register-clause-does g t c =
    let T = g.T.Teller in
    let F = g.F.Files in
    let e = c.register.ensures in
    let mid = c.int-in-Register.new.self in
    let new = c.register.new.self in
    let tell = c.int-in-Register.new.tell in
    let files = c.int-in-Register.new.files in
    let i = c.in_ok-number-in-Register.number in
    let fits : FitsSigned w32 i = search rules in
    let d = does_silent (hears T.wanting T.heard) (hears_part T.wanting T.part) (λ c. a_register i) (lawful_register i) c.register.result mid new (outside (F.shelf files) (F.faults files) (T.faults tell) (T.loan tell)) tell (subst (λ z. Local (a_register z) c.register.result mid new) (to_z-of_z w32 i fits) e.is (F.shelf files)) e.kept e.limit e.keeps e.progress e.files c.in_ok-number-in-Register.ensures.does.holds.owns in
    rw c.in-Register.is (does_then (hears T.wanting T.heard) (hears_part T.wanting T.part) (λ c. c.scan int_text []) (λ i c. a_register i) (lawful_scan int_text) lawful_register i _ _ _ _ _ _ _ _ _ _ c.in_ok-number-in-Register.ensures.does d)

pub int-returns-clause-does : goal.int-returns-clause-does
int-returns-clause-does g t c =
    let same : (xs : List Look) → machine_rest (machines.Int c.new.result) xs ≡ mapped worths.Int (int_text xs) = λ xs. ap (λ r. mapped worths.Int (verdict r)) (c.new.ensures xs) in
    let i = c.in-Int.value in
    let fits : FitsSigned w32 i = search rules in
    let h = scan_of _ _ worths.Int (machine_rest (machines.Int c.new.result)) int_text same i c.in_ok-value.field-0 _ _ _ _ _ _ c.in-Int.is int_same c.in_ok-value.ensures.does in
    rw (to_z-of_z w32 i fits) h

pub int-returns-clause-gives : goal.int-returns-clause-gives
int-returns-clause-gives g t c =
    let same : (xs : List Look) → machine_rest (machines.Int c.new.result) xs ≡ mapped worths.Int (int_text xs) = λ xs. ap (λ r. mapped worths.Int (verdict r)) (c.new.ensures xs) in
    let i = c.in-Int.value in
    let fits : FitsSigned w32 i = search rules in
    let h = gives_of worths.Int (machine_rest (machines.Int c.new.result)) int_text same i c.in_ok-value.field-0 c.in-Int.is int_same c.in_ok-value.ensures.gives in
    rw (to_z-of_z w32 i fits) h

pub int-returns-in_err-value-clause-does : goal.int-returns-in_err-value-clause-does
int-returns-in_err-value-clause-does g t c =
    let same : (xs : List Look) → machine_rest (machines.Int c.new.result) xs ≡ mapped worths.Int (int_text xs) = λ xs. ap (λ r. mapped worths.Int (verdict r)) (c.new.ensures xs) in
    let h = scan_stop _ _ worths.Int (machine_rest (machines.Int c.new.result)) int_text same _ _ _ _ _ _ _ c.in_err-value.ensures.does in
    search (rules, h)

pub int-unreachable-requires : goal.int-unreachable-requires
int-unreachable-requires g t c =
    let same : (xs : List Look) → machine_rest (machines.Int c.new.result) xs ≡ mapped worths.Int (int_text xs) = λ xs. ap (λ r. mapped worths.Int (verdict r)) (c.new.ensures xs) in
    let h = scan_gives worths.Int (machine_rest (machines.Int c.new.result)) int_text same _ c.in_ok-value.ensures.gives in
    c.in_default.not-Int h.value h.is

pub dimension-returns-clause-does : goal.dimension-returns-clause-does
dimension-returns-clause-does g t c =
    let same : (xs : List Look) → machine_rest (machines.Dimen c.new.result) xs ≡ mapped worths.Dimen (dimension_text xs) = λ xs. ap (λ r. mapped worths.Dimen (verdict r)) (c.new.ensures xs) in
    let i = c.in-Dimen.value in
    let h = scan_of _ _ worths.Dimen (machine_rest (machines.Dimen c.new.result)) dimension_text same i c.in_ok-value.field-0 _ _ _ _ _ _ c.in-Dimen.is dimen_same c.in_ok-value.ensures.does in
    h

pub dimension-returns-clause-gives : goal.dimension-returns-clause-gives
dimension-returns-clause-gives g t c =
    let same : (xs : List Look) → machine_rest (machines.Dimen c.new.result) xs ≡ mapped worths.Dimen (dimension_text xs) = λ xs. ap (λ r. mapped worths.Dimen (verdict r)) (c.new.ensures xs) in
    let i = c.in-Dimen.value in
    let h = gives_of worths.Dimen (machine_rest (machines.Dimen c.new.result)) dimension_text same i c.in_ok-value.field-0 c.in-Dimen.is dimen_same c.in_ok-value.ensures.gives in
    h

pub dimension-returns-in_err-value-clause-does : goal.dimension-returns-in_err-value-clause-does
dimension-returns-in_err-value-clause-does g t c =
    let same : (xs : List Look) → machine_rest (machines.Dimen c.new.result) xs ≡ mapped worths.Dimen (dimension_text xs) = λ xs. ap (λ r. mapped worths.Dimen (verdict r)) (c.new.ensures xs) in
    let h = scan_stop _ _ worths.Dimen (machine_rest (machines.Dimen c.new.result)) dimension_text same _ _ _ _ _ _ _ c.in_err-value.ensures.does in
    search (rules, h)

pub dimension-unreachable-requires : goal.dimension-unreachable-requires
dimension-unreachable-requires g t c =
    let same : (xs : List Look) → machine_rest (machines.Dimen c.new.result) xs ≡ mapped worths.Dimen (dimension_text xs) = λ xs. ap (λ r. mapped worths.Dimen (verdict r)) (c.new.ensures xs) in
    let h = scan_gives worths.Dimen (machine_rest (machines.Dimen c.new.result)) dimension_text same _ c.in_ok-value.ensures.gives in
    c.in_default.not-Dimen h.value h.is

pub internal-returns-in-Builtin-clause-does : goal.internal-returns-in-Builtin-clause-does
internal-returns-in-Builtin-clause-does g t c =
    rw c.in-Builtin.is c.internal_at.ensures.does

pub internal-returns-in-Number-clause-does : goal.internal-returns-in-Number-clause-does
internal-returns-in-Number-clause-does g t c =
    let T = g.T.Teller in
    let F = g.F.Files in
    let within = rw c.in-Number.is at c.requires.meaning in
    rw c.in-Number.is (rw (scalar_signed c.in-Number.code within) (does_now (hears T.wanting T.heard) (hears_part T.wanting T.part) (Number (pos c.in-Number.code)) c.args.self.now (outside (F.shelf c.args.files.now) (F.faults c.args.files.now) (T.faults c.args.tell.now) (T.loan c.args.tell.now)) c.args.tell.now c.requires.sound c.requires.running c.requires.owns))

pub internal-returns-in-Quantity-clause-does : goal.internal-returns-in-Quantity-clause-does
internal-returns-in-Quantity-clause-does g t c =
    let T = g.T.Teller in
    let F = g.F.Files in
    let e = c.value_of.ensures in
    let mine = c.args.self.now in
    let new = c.value_of.new.self in
    let k = key_at mine.names c.in-Quantity.key in
    let d = does_as (hears T.wanting T.heard) (hears_part T.wanting T.part) (internal_at new.names) (value k) (lawful_value k) c.value_of.result mine new (outside (F.shelf c.args.files.now) (F.faults c.args.files.now) (T.faults c.args.tell.now) (T.loan c.args.tell.now)) c.args.tell.now (by_new internal_at (value_of k) c.value_of.result mine new e.values e.same) e.kept e.limit e.keeps e.progress e.files c.requires.owns in
    rw c.in-Quantity.is d

pub internal-returns-in_default : goal.internal-returns-in_default
internal-returns-in_default g t c =
    let T = g.T.Teller in
    let F = g.F.Files in
    let e = c.bare_fault.ensures in
    let m = meaning_at c.args.self.now.names c.args.meaning.now in
    let n = c.in_default in
    let is = not_internal total c.args.self.now.names c.args.meaning.now (state_of (F.shelf c.args.files.now) c.args.self.now) n.not-Builtin n.not-Quantity n.not-Number in
    record { does = does_fault (hears T.wanting T.heard) (hears_part T.wanting T.part) (λ c. internal c m) (lawful_internal m) MISSING_NUMBER [] c.bare_fault.result c.args.self.now c.bare_fault.new.self (outside (F.shelf c.args.files.now) (F.faults c.args.files.now) (T.faults c.args.tell.now) (T.loan c.args.tell.now)) c.args.tell.now is e.is e.kept c.requires.owns; lower = tt; within = tt }

pub internal_at-returns-clause-does : goal.internal_at-returns-clause-does
internal_at-returns-clause-does g t c =
    let T = g.T.Teller in
    let F = g.F.Files in
    let e = c.value_of.ensures in
    let mid = c.index.new.self in
    let new = c.value_of.new.self in
    let tell = c.index.new.tell in
    let files = c.index.new.files in
    let v = c.in-Some.variable in
    let n = c.in_ok-number.number in
    let k = key_of v n in
    let some = sym c.variable_at.ensures ∙ c.in-Some.is in
    let i = c.in_ok-number.ensures.does in
    let index = index_as (hears T.wanting T.heard) (hears_part T.wanting T.part) _ (index_of v) _ _ _ _ _ _ _ (sym c.index_of.ensures) i in
    let key = does_then (hears T.wanting T.heard) (hears_part T.wanting T.part) (λ c. read_index c (index_of v)) (λ n c. give (key_of v n)) (lawful_index (index_of v)) (λ n. lawful_give (key_of v n)) n _ _ _ _ _ _ _ _ _ _ index (does_now (hears T.wanting T.heard) (hears_part T.wanting T.part) k mid (outside (F.shelf files) (F.faults files) (T.faults tell) (T.loan tell)) tell i.keeps.sound i.stops.kept i.holds.owns) in
    let same = ap (key_at mid.names) c.key_of.ensures ∙ key_same mid.names v n in
    let values = subst (λ k. Local (value_of k) (ok_at (internal_at mid.names) c.value_of.result) mid new) same e.values in
    let d = does_as (hears T.wanting T.heard) (hears_part T.wanting T.part) (internal_at new.names) (value k) (lawful_value k) c.value_of.result mid new (outside (F.shelf files) (F.faults files) (T.faults tell) (T.loan tell)) tell (by_new internal_at (value_of k) c.value_of.result mid new values e.same) e.kept e.limit e.keeps e.progress e.files i.holds.owns in
    rw some (does_then (hears T.wanting T.heard) (hears_part T.wanting T.part) (λ c. read_key c v) value (lawful_key v) lawful_value k _ _ _ _ _ _ _ _ _ _ key d)

pub internal_at-returns-in_default-clause-does : goal.internal_at-returns-in_default-clause-does
internal_at-returns-in_default-clause-does g t c =
    let T = g.T.Teller in
    let F = g.F.Files in
    let e = c.bare_fault.ensures in
    let none = sym c.variable_at.ensures ∙ no_value c.variable_at.result c.in_default.not-Some in
    rw none (does_fault (hears T.wanting T.heard) (hears_part T.wanting T.part) (λ c. internal_of c None) (lawful_internal_of None) MISSING_NUMBER [] c.bare_fault.result c.args.self.now c.bare_fault.new.self (outside (F.shelf c.args.files.now) (F.faults c.args.files.now) (T.faults c.args.tell.now) (T.loan c.args.tell.now)) c.args.tell.now refl e.is e.kept c.requires.owns)

pub internal_at-returns-in_err-number-clause-does : goal.internal_at-returns-in_err-number-clause-does
internal_at-returns-in_err-number-clause-does g t c =
    let T = g.T.Teller in
    let F = g.F.Files in
    let v = c.in-Some.variable in
    let some = sym c.variable_at.ensures ∙ c.in-Some.is in
    let index = index_as (hears T.wanting T.heard) (hears_part T.wanting T.part) _ (index_of v) _ _ _ _ _ _ _ (sym c.index_of.ensures) c.in_err-number.ensures.does in
    let key = does_stop (hears T.wanting T.heard) (hears_part T.wanting T.part) (λ c. read_index c (index_of v)) (λ n c. give (key_of v n)) (lawful_index (index_of v)) (λ n. lawful_give (key_of v n)) _ _ _ _ _ _ _ index in
    let h = does_stop (hears T.wanting T.heard) (hears_part T.wanting T.part) (λ c. read_key c v) value (lawful_key v) lawful_value _ _ _ _ _ _ _ key in
    let goal = subst (λ o. Does (hears T.wanting T.heard) (hears_part T.wanting T.part) (λ n. internal_of (level n) o) (Err c.in_err-number.field-0.0) c.args.self.now c.index.new.self (outside (F.shelf c.args.files.now) (F.faults c.args.files.now) (T.faults c.args.tell.now) (T.loan c.args.tell.now)) (outside (F.shelf c.index.new.files) (F.faults c.index.new.files) (T.faults c.index.new.tell) (T.loan c.index.new.tell)) c.args.tell.now c.index.new.tell) (sym some) h in
    rw (passed_on c.from_residual.result c.in_err-number.field-0.0 c.from_residual.ensures) goal

pub look_by-returns-clause-does : goal.look_by-returns-clause-does
look_by-returns-clause-does g t c =
    let T = g.T.Teller in
    let F = g.F.Files in
    let mine = c.args.self.now in
    let tell = c.args.tell.now in
    let files = c.args.files.now in
    let t = token_at mine.names c.args.token in
    let m = meaning_at mine.names c.in-Ok.meaning in
    let r = machine_rest c.args.machine.now in
    let names = ap (λ (h : Held). h.names) c.self.view_is in
    let first = c.looked_at-look.ensures ∙ ap (λ texts. look_of (token_at texts c.args.token) c.in-Ok.meaning Nothing) names ∙ look_at mine.names t c.in-Ok.meaning Nothing in
    let asked = ap (λ l. r (l ∷ [])) (sym first) ∙ c.turn.ensures.is ∙ ap scanned_as c.in-Asked.is in
    let i = c.in_ok-internal.ensures.does in
    let new = c.internal.new.self in
    let q = c.in_ok-internal.internal in
    let now = ap (λ (h : Held). h.names) c.self-2.view_is in
    let second = c.looked_at-look-2.ensures ∙ ap (λ texts. look_of (token_at texts c.args.token) c.in-Ok.meaning c.held_of.result) now ∙ ap (look_of (token_at new.names c.args.token) c.in-Ok.meaning) c.held_of.ensures ∙ look_behind mine.names new.names i.progress.names c.args.token c.requires.token c.in-Ok.meaning q in
    let d = look_done (hears T.wanting T.heard) (hears_part T.wanting T.part) r t m (internal_at new.names q) _ _ _ _ _ _ c.in-Ok.ensures.means asked i in
    rw second d

pub look_by-returns-in-Err-clause-does : goal.look_by-returns-in-Err-clause-does
look_by-returns-in-Err-clause-does g t c =
    let T = g.T.Teller in
    let F = g.F.Files in
    let x = token_at c.args.self.now.names c.args.token in
    let r = machine_rest c.args.machine.now in
    does_out (hears T.wanting T.heard) (hears_part T.wanting T.part) (λ c. look c r [] x) (lawful_look r [] x) c.no_memory.result c.args.self.now c.no_memory.new.self (outside (F.shelf c.args.files.now) (F.faults c.args.files.now) (T.faults c.args.tell.now) (T.loan c.args.tell.now)) c.args.tell.now c.no_memory.ensures.is c.no_memory.ensures.kept c.requires.owns

pub look_by-returns-in_err-internal-clause-does : goal.look_by-returns-in_err-internal-clause-does
look_by-returns-in_err-internal-clause-does g t c =
    let T = g.T.Teller in
    let F = g.F.Files in
    let mine = c.args.self.now in
    let tell = c.args.tell.now in
    let files = c.args.files.now in
    let t = token_at mine.names c.args.token in
    let m = meaning_at mine.names c.in-Ok.meaning in
    let r = machine_rest c.args.machine.now in
    let names = ap (λ (h : Held). h.names) c.self.view_is in
    let first = c.looked_at-look.ensures ∙ ap (λ texts. look_of (token_at texts c.args.token) c.in-Ok.meaning Nothing) names ∙ look_at mine.names t c.in-Ok.meaning Nothing in
    let asked = ap (λ l. r (l ∷ [])) (sym first) ∙ c.turn.ensures.is ∙ ap scanned_as c.in-Asked.is in
    let h = look_stops (hears T.wanting T.heard) (hears_part T.wanting T.part) r t m _ _ _ _ _ _ _ c.in-Ok.ensures.means asked c.in_err-internal.ensures.does in
    rw (passed_on c.from_residual.result c.in_err-internal.field-0.0 c.from_residual.ensures) h

pub look_by-returns-then-deep-ge-DEEPEST_QUANTITY-clause-does : goal.look_by-returns-then-deep-ge-DEEPEST_QUANTITY-clause-does
look_by-returns-then-deep-ge-DEEPEST_QUANTITY-clause-does g t c =
    let T = g.T.Teller in
    let F = g.F.Files in
    let x = token_at c.args.self.now.names c.args.token in
    let r = machine_rest c.args.machine.now in
    let e = c.no_memory-then-deep-ge-DEEPEST_QUANTITY.ensures in
    does_out (hears T.wanting T.heard) (hears_part T.wanting T.part) (λ c. look c r [] x) (lawful_look r [] x) c.no_memory-then-deep-ge-DEEPEST_QUANTITY.result c.args.self.now c.no_memory-then-deep-ge-DEEPEST_QUANTITY.new.self (outside (F.shelf c.args.files.now) (F.faults c.args.files.now) (T.faults c.args.tell.now) (T.loan c.args.tell.now)) c.args.tell.now e.is e.kept c.requires.owns

pub next_looked-returns-in-None-2-clause-does : goal.next_looked-returns-in-None-2-clause-does
next_looked-returns-in-None-2-clause-does g t c =
    let T = g.T.Teller in
    let F = g.F.Files in
    let f = c.in_ok-read-2.ensures.does in
    let new = c.fetch_on.new.self in
    let tell = c.fetch_on.new.tell in
    let files = c.fetch_on.new.files in
    let d = rw c.in-None-2.is at f in
    let h = does_then (hears T.wanting T.heard) (hears_part T.wanting T.part) (λ c. c.fetch) counts lawful_fetch lawful_counts None _ _ _ _ _ _ _ _ _ _ d (does_silent (hears T.wanting T.heard) (hears_part T.wanting T.part) (counts None) (lawful_counts None) (Ok None) new new (outside (F.shelf files) (F.faults files) (T.faults tell) (T.loan tell)) tell refl f.stops.kept tt (kept_itself new f.keeps.sound) (progress_itself new) (files_same new new refl) f.holds.owns) in
    looked_as (hears T.wanting T.heard) (hears_part T.wanting T.part) false c.args.raw _ _ _ _ _ _ _ c.if-raw.false h

pub next_looked-returns-in-None-clause-does : goal.next_looked-returns-in-None-clause-does
next_looked-returns-in-None-clause-does g t c =
    let T = g.T.Teller in
    let e = c.in_ok-read.ensures.gets in
    let new = c.take_front.new.self in
    let d = does_gets (hears T.wanting T.heard) (hears_part T.wanting T.part) (λ c. take) lawful_take (Ok None) c.args.self.now new _ _ _ _ (T.faults c.args.tell.now) (T.loan c.args.tell.now) c.args.tell.now (rw c.in-None.is at e) in
    let h = does_then (hears T.wanting T.heard) (hears_part T.wanting T.part) (λ c. take) (λ o c. give (option_map as_itself o)) lawful_take (λ o. lawful_give (option_map as_itself o)) None _ _ _ _ _ _ _ _ _ _ d (does_now (hears T.wanting T.heard) (hears_part T.wanting T.part) None new _ c.args.tell.now e.keeps.sound e.stops.kept e.holds.owns) in
    looked_as (hears T.wanting T.heard) (hears_part T.wanting T.part) true c.args.raw _ _ _ _ _ _ _ c.if-raw.true h

pub next_looked-returns-in-Some-2-clause-does : goal.next_looked-returns-in-Some-2-clause-does
next_looked-returns-in-Some-2-clause-does g t c =
    let T = g.T.Teller in
    let F = g.F.Files in
    let f = c.in_ok-read-2.ensures.does in
    let e = c.counted.ensures in
    let mid = c.fetch_on.new.self in
    let new = c.counted.new.self in
    let tell = c.fetch_on.new.tell in
    let files = c.fetch_on.new.files in
    let x = Some (read_at mid.names c.in-Some-2.read) in
    let d = rw c.in-Some-2.is at f in
    let k = does_as (hears T.wanting T.heard) (hears_part T.wanting T.part) (option_map (looked_at new.names)) (counts x) (lawful_counts x) c.counted.result mid new (outside (F.shelf files) (F.faults files) (T.faults tell) (T.loan tell)) tell e.counts e.kept e.limit e.keeps e.progress e.files f.holds.owns in
    let h = does_then (hears T.wanting T.heard) (hears_part T.wanting T.part) (λ c. c.fetch) counts lawful_fetch lawful_counts x _ _ _ _ _ _ _ _ _ _ d k in
    looked_as (hears T.wanting T.heard) (hears_part T.wanting T.part) false c.args.raw _ _ _ _ _ _ _ c.if-raw.false h

pub next_looked-returns-in-Some-clause-does : goal.next_looked-returns-in-Some-clause-does
next_looked-returns-in-Some-clause-does g t c =
    let T = g.T.Teller in
    let e = c.in_ok-read.ensures.gets in
    let new = c.take_front.new.self in
    let x = Some (read_at new.names c.in-Some.read) in
    let d = does_gets (hears T.wanting T.heard) (hears_part T.wanting T.part) (λ c. take) lawful_take (Ok x) c.args.self.now new _ _ _ _ (T.faults c.args.tell.now) (T.loan c.args.tell.now) c.args.tell.now (rw c.in-Some.is at e) in
    let h = does_then (hears T.wanting T.heard) (hears_part T.wanting T.part) (λ c. take) (λ o c. give (option_map as_itself o)) lawful_take (λ o. lawful_give (option_map as_itself o)) x _ _ _ _ _ _ _ _ _ _ d
    (does_now (hears T.wanting T.heard) (hears_part T.wanting T.part) (option_map as_itself x) new _ c.args.tell.now e.keeps.sound e.stops.kept e.holds.owns) in
    rw c.as_itself.ensures (looked_as (hears T.wanting T.heard) (hears_part T.wanting T.part) true c.args.raw _ _ _ _ _ _ _ c.if-raw.true h)

pub next_looked-returns-in_err-read-2-clause-does : goal.next_looked-returns-in_err-read-2-clause-does
next_looked-returns-in_err-read-2-clause-does g t c =
    let T = g.T.Teller in
    let F = g.F.Files in
    let h = does_stop (hears T.wanting T.heard) (hears_part T.wanting T.part) (λ c. c.fetch) counts lawful_fetch lawful_counts _ _ _ _ _ _ _ c.in_err-read-2.ensures.does in
    let goal = looked_as (hears T.wanting T.heard) (hears_part T.wanting T.part) false c.args.raw _ _ _ _ _ _ _ c.if-raw.false h in
    rw (passed_on c.from_residual-in_err-read-2.result c.in_err-read-2.field-0.0 c.from_residual-in_err-read-2.ensures) goal

pub next_looked-returns-in_err-read-clause-does : goal.next_looked-returns-in_err-read-clause-does
next_looked-returns-in_err-read-clause-does g t c =
    let T = g.T.Teller in
    let d = does_gets (hears T.wanting T.heard) (hears_part T.wanting T.part) (λ c. take) lawful_take _ c.args.self.now c.take_front.new.self _ _ _ _ (T.faults c.args.tell.now) (T.loan c.args.tell.now) c.args.tell.now c.in_err-read.ensures.gets in
    let h = does_stop (hears T.wanting T.heard) (hears_part T.wanting T.part) (λ c. take) (λ o c. give (option_map as_itself o)) lawful_take (λ o. lawful_give (option_map as_itself o)) _ _ _ _ _ _ _ d in
    let goal = looked_as (hears T.wanting T.heard) (hears_part T.wanting T.part) true c.args.raw _ _ _ _ _ _ _ c.if-raw.true h in
    search (rules, goal)

pub scan-returns-in-Err-clause-does : goal.scan-returns-in-Err-clause-does
scan-returns-in-Err-clause-does g t c =
    let T = g.T.Teller in
    let F = g.F.Files in
    let r = machine_rest c.args.start in
    let i = c.tokens.invariant.on in
    let some = sym c.raw.ensures ∙ c.in-Some.is in
    let mid = c.next_looked.new.self in
    let d = rw c.in-Some-2.is at c.in_ok-looked.ensures.does in
    let x = looked_at mid.names c.in-Some-2.looked in
    let k = c.in_ok-look.ensures in
    let lower = rw c.in-Some-2.is at c.in_ok-looked.ensures.lower in
    let within = rw c.in-Some-2.is at c.in_ok-looked.ensures.within in
    let on = scanning_on (hears T.wanting T.heard) (hears_part T.wanting T.part) r _ _ mid _ _ _ _ _ _ _ _ _ c.tokens.machine c.look_by.new.machine _ c.in_ok-look.next _ _ c.in-Some-2.looked c.in_ok-look.look i some d within.token lower k.does k.lower k.turned in
    let e = c.no_memory.ensures in
    let tell = c.look_by.new.tell in
    let files = c.look_by.new.files in
    scan_does (hears T.wanting T.heard) (hears_part T.wanting T.part) r _ _ c.look_by.new.self _ _ _ _ _ _ _ _ _ _ on (did_out (hears T.wanting T.heard) (hears_part T.wanting T.part) _ c.no_memory.result c.look_by.new.self c.no_memory.new.self (outside (F.shelf files) (F.faults files) (T.faults tell) (T.loan tell)) tell e.is e.kept k.does.holds.owns)

pub scan-returns-in-None-clause-does : goal.scan-returns-in-None-clause-does
scan-returns-in-None-clause-does g t c =
    let T = g.T.Teller in
    let F = g.F.Files in
    let r = machine_rest c.args.start in
    let i = c.tokens.invariant.on in
    let some = sym c.raw.ensures ∙ c.in-Some.is in
    let d = rw c.in-None.is at c.in_ok-looked.ensures.does in
    let e = c.decided_on-in-None.ensures in
    let mid = c.next_looked.new.self in
    let new = c.decided_on-in-None.new.self in
    let tell = c.next_looked.new.tell in
    let files = c.next_looked.new.files in
    let decides = rw c.deref-in-None.ensures.value at e.decides in
    let u = did_silent (hears T.wanting T.heard) (hears_part T.wanting T.part) _ c.decided_on-in-None.result mid new (outside (F.shelf files) (F.faults files) (T.faults tell) (T.loan tell)) tell (decides (F.shelf files)) e.kept e.limit e.keeps e.progress e.files d.holds.owns in
    scan_ends (hears T.wanting T.heard) (hears_part T.wanting T.part) r c.decided_on-in-None.result _ _ mid _ _ _ _ _ _ _ _ _ _ _ _ _ _ i some d c.end.ensures.is c.end.ensures.over u

pub scan-returns-in-None-clause-lower : goal.scan-returns-in-None-clause-lower
scan-returns-in-None-clause-lower g t c =
    let i = c.tokens.invariant.on in
    let e = c.decided_on-in-None.ensures in
    let low = rw c.in-None.is at c.in_ok-looked.ensures.lower in
    let puts = rw c.deref-in-None.ensures.value at e.puts in
    scanned_shrinks c.decided_on-in-None.result _ _ _ _ c.next_looked.new.self _ (shrinks_then _ 0 _ _ _ _ _ c.tokens.self _ i.lower low (omega arith)) puts

pub scan-returns-in-None-clause-gives : goal.scan-returns-in-None-clause-gives
scan-returns-in-None-clause-gives g t c =
    let r = machine_rest c.args.start in
    let i = c.tokens.invariant.on in
    let some = sym c.raw.ensures ∙ c.in-Some.is in
    end_gives (hears g.T.Teller.wanting g.T.Teller.heard) (hears_part g.T.Teller.wanting g.T.Teller.part) r c.decided_on-in-None.result _ _ _ _ _ _ _ _ _ _ _ i some c.end.ensures.is c.decided_on-in-None.ensures.value

pub scan-returns-in_default-clause-does : goal.scan-returns-in_default-clause-does
scan-returns-in_default-clause-does g t c =
    let T = g.T.Teller in
    let F = g.F.Files in
    let r = machine_rest c.args.start in
    let i = c.tokens.invariant.on in
    let none = sym c.raw.ensures ∙ no_value c.raw.result c.in_default.not-Some in
    let e = c.decided_on.ensures in
    let now = c.tokens.self in
    let new = c.decided_on.new.self in
    let tell = c.tokens.tell in
    let files = c.tokens.files in
    let decides = rw c.deref.ensures.value at e.decides in
    let d = did_silent (hears T.wanting T.heard) (hears_part T.wanting T.part) _ c.decided_on.result now new (outside (F.shelf files) (F.faults files) (T.faults tell) (T.loan tell)) tell (decides (F.shelf files)) e.kept e.limit e.keeps e.progress e.files i.owns in
    scan_decides (hears T.wanting T.heard) (hears_part T.wanting T.part) r c.decided_on.result _ _ _ _ _ _ _ _ _ _ _ _ i none d

pub scan-returns-in_default-clause-lower : goal.scan-returns-in_default-clause-lower
scan-returns-in_default-clause-lower g t c =
    let puts = rw c.deref.ensures.value at c.decided_on.ensures.puts in
    scanned_shrinks c.decided_on.result _ _ _ _ c.tokens.self _ c.tokens.invariant.on.lower puts

pub scan-returns-in_default-clause-gives : goal.scan-returns-in_default-clause-gives
scan-returns-in_default-clause-gives g t c =
    decided_gives (machine_rest c.args.start) c.decided_on.result _ c.tokens.scanned c.tokens.invariant.on.is c.decided_on.ensures.value

pub scan-returns-in_err-look-clause-does : goal.scan-returns-in_err-look-clause-does
scan-returns-in_err-look-clause-does g t c =
    let T = g.T.Teller in
    let F = g.F.Files in
    let r = machine_rest c.args.start in
    let i = c.tokens.invariant.on in
    let some = sym c.raw.ensures ∙ c.in-Some.is in
    let mid = c.next_looked.new.self in
    let d = rw c.in-Some-2.is at c.in_ok-looked.ensures.does in
    let x = looked_at mid.names c.in-Some-2.looked in
    let h = scan_unseen (hears T.wanting T.heard) (hears_part T.wanting T.part) r _ _ _ mid _ _ _ _ _ _ _ _ _ _ _ _ _ x i some d c.in_err-look.ensures.does in
    rw (passed_on c.from_residual-in_err-look.result c.in_err-look.field-0.0 c.from_residual-in_err-look.ensures) h

pub scan-returns-in_err-looked-clause-does : goal.scan-returns-in_err-looked-clause-does
scan-returns-in_err-looked-clause-does g t c =
    let T = g.T.Teller in
    let F = g.F.Files in
    let r = machine_rest c.args.start in
    let i = c.tokens.invariant.on in
    let some = sym c.raw.ensures ∙ c.in-Some.is in
    let h = scan_stops (hears T.wanting T.heard) (hears_part T.wanting T.part) r _ _ _ _ _ _ _ _ _ _ _ _ _ _ i some c.in_err-looked.ensures.does in
    search (rules, h)

pub scan-rounds-preserved : goal.scan-rounds-preserved
scan-rounds-preserved g t c =
    let T = g.T.Teller in
    let F = g.F.Files in
    let r = machine_rest c.args.start in
    let i = c.tokens.invariant.on in
    let some = sym c.raw.ensures ∙ c.in-Some.is in
    let mid = c.next_looked.new.self in
    let d = rw c.in-Some-2.is at c.in_ok-looked.ensures.does in
    let x = looked_at mid.names c.in-Some-2.looked in
    let k = c.in_ok-look.ensures in
    let lower = rw c.in-Some-2.is at c.in_ok-looked.ensures.lower in
    let within = rw c.in-Some-2.is at c.in_ok-looked.ensures.within in
    let on = scanning_on (hears T.wanting T.heard) (hears_part T.wanting T.part) r _ _ mid _ _ _ _ _ _ _ _ _ c.tokens.machine c.look_by.new.machine _ c.in_ok-look.next _ _ c.in-Some-2.looked c.in_ok-look.look i some d within.token lower k.does k.lower k.turned in
    rw c.in-Ok.ensures.items on

pub scan-tokens-preserved : goal.scan-tokens-preserved
scan-tokens-preserved g t c =
    let T = g.T.Teller in
    let F = g.F.Files in
    let r = machine_rest c.args.start in
    let i = c.tokens.invariant.on in
    let some = sym c.raw.ensures ∙ c.in-Some.is in
    let mid = c.next_looked.new.self in
    let d = rw c.in-Some-2.is at c.in_ok-looked.ensures.does in
    let x = looked_at mid.names c.in-Some-2.looked in
    let k = c.in_ok-look.ensures in
    let lower = rw c.in-Some-2.is at c.in_ok-looked.ensures.lower in
    let within = rw c.in-Some-2.is at c.in_ok-looked.ensures.within in
    let on = scanning_on (hears T.wanting T.heard) (hears_part T.wanting T.part) r _ _ mid _ _ _ _ _ _ _ _ _ c.tokens.machine c.look_by.new.machine _ c.in_ok-look.next _ _ c.in-Some-2.looked c.in_ok-look.look i some d within.token lower k.does k.lower k.turned in
    let l = c.tokens.invariant in
    record { on = rw c.in-Ok.ensures.items on; begun = sym c.begun.ensures ∙ c.if-begun.false; same = l.same; limit = k.does.progress.limit ∙ d.progress.limit ∙ l.limit }

pub the-returns-in_err-internal-clause-does : goal.the-returns-in_err-internal-clause-does
the-returns-in_err-internal-clause-does g t c =
    let T = g.T.Teller in
    let F = g.F.Files in
    let h = the_stops (hears T.wanting T.heard) (hears_part T.wanting T.part) _ _ _ _ _ _ _ c.in_err-internal.ensures.does in
    search (rules, h)

pub the-returns-clause-does : goal.the-returns-clause-does
the-returns-clause-does g t c =
    let T = g.T.Teller in
    let F = g.F.Files in
    let e = c.shown.ensures in
    let mid = c.next_internal.new.self in
    let new = c.shown.new.self in
    let last = c.next_internal.new.tell in
    let files = c.next_internal.new.files in
    let q = internal_at mid.names c.in_ok-internal.internal in
    let u = does_as (hears T.wanting T.heard) (hears_part T.wanting T.part) (tokens_at new.names) (λ c. give (shown q)) (lawful_give (shown q)) c.shown.result mid new (outside (F.shelf files) (F.faults files) (T.faults last) (T.loan last)) last (by_new tokens_at (give (shown q)) c.shown.result mid new e.writes e.same) e.kept e.limit e.keeps e.progress e.files c.in_ok-internal.ensures.does.holds.owns in
    the_does (hears T.wanting T.heard) (hears_part T.wanting T.part) q _ _ _ _ _ _ _ _ _ _ c.in_ok-internal.ensures.does u

pub next_internal-returns-in_err-looked-clause-does : goal.next_internal-returns-in_err-looked-clause-does
next_internal-returns-in_err-looked-clause-does g t c =
    let T = g.T.Teller in
    let F = g.F.Files in
    let h = internal_stops (hears T.wanting T.heard) (hears_part T.wanting T.part) _ _ _ _ _ _ _ c.in_err-looked.ensures.does in
    search (rules, h)

pub next_internal-returns-in-None-clause-does : goal.next_internal-returns-in-None-clause-does
next_internal-returns-in-None-clause-does g t c =
    let T = g.T.Teller in
    let F = g.F.Files in
    internal_ends (hears T.wanting T.heard) (hears_part T.wanting T.part) c.bare_fault.result _ c.next_looked.new.self c.bare_fault.new.self _ _ _ _ (rw c.in-None.is at c.in_ok-looked.ensures.does) c.bare_fault.ensures.is c.bare_fault.ensures.kept

pub next_internal-returns-in-Err-clause-does : goal.next_internal-returns-in-Err-clause-does
next_internal-returns-in-Err-clause-does g t c =
    let T = g.T.Teller in
    let F = g.F.Files in
    let mid = c.next_looked.new.self in
    internal_out (hears T.wanting T.heard) (hears_part T.wanting T.part) (looked_at mid.names c.in-Some.looked) c.no_memory.result _ mid c.no_memory.new.self _ _ _ _ (rw c.in-Some.is at c.in_ok-looked.ensures.does) c.no_memory.ensures.is c.no_memory.ensures.kept

pub next_internal-returns-clause-does : goal.next_internal-returns-clause-does
next_internal-returns-clause-does g t c =
    let T = g.T.Teller in
    let F = g.F.Files in
    let mid = c.next_looked.new.self in
    internal_begins (hears T.wanting T.heard) (hears_part T.wanting T.part) (looked_at mid.names c.in-Some.looked) (meaning_at mid.names c.in-Ok.meaning) _ _ _ _ _ _ _ _ _ _ (rw c.in-Some.is at c.in_ok-looked.ensures.does) c.in-Ok.ensures.means c.internal.ensures.does

pub look_by-returns-in_default : goal.look_by-returns-in_default
look_by-returns-in_default g t c =
    let T = g.T.Teller in
    let F = g.F.Files in
    let mine = c.args.self.now in
    let tell = c.args.tell.now in
    let files = c.args.files.now in
    let t = token_at mine.names c.args.token in
    let m = meaning_at mine.names c.in-Ok.meaning in
    let r = machine_rest c.args.machine.now in
    let names = ap (λ (h : Held). h.names) c.self.view_is in
    let first = c.looked_at-look.ensures ∙ ap (λ texts. look_of (token_at texts c.args.token) c.in-Ok.meaning Nothing) names ∙ look_at mine.names t c.in-Ok.meaning Nothing in
    let is = ap (λ l. r (l ∷ [])) (sym first) ∙ c.turn.ensures.is in
    let d = look_now (hears T.wanting T.heard) (hears_part T.wanting T.part) r t m c.turn.result mine (outside (F.shelf files) (F.faults files) (T.faults tell) (T.loan tell)) tell c.requires.sound c.requires.running c.requires.owns c.in-Ok.ensures.means is c.in_default.not-Asked in
    record { does = subst (λ l. Does (hears T.wanting T.heard) (hears_part T.wanting T.part) (λ n. look (level n) r [] t) (Ok l) mine mine (outside (F.shelf files) (F.faults files) (T.faults tell) (T.loan tell)) (outside (F.shelf files) (F.faults files) (T.faults tell) (T.loan tell)) tell tell) (sym first) d; turned = record { is = c.turn.ensures.is; on = c.turn.ensures.on }; lower = shrinks_none (F.shelf files) mine }

pub expand-given-requires : goal.expand-given-requires
expand-given-requires g t c κs within =
    let b = c.in_ok-begin.ensures in
    let mine = c.args.self.now in
    let mid = c.begin.new.self in
    let kept = begun_kept mine mid b.is b.within c.requires.sound in
    let owns = owns_same (g.F.Files.shelf c.args.files.now) mine mid c.requires.owns b.files in
    let found = subst (λ (h : Held). ExpandableWithin (length h.names) c.args.found) (sym b.is) c.requires.found in
    let token = subst (λ (h : Held). TokenWithin (length h.names) c.args.token) (sym b.is) c.requires.token in
    let nesting = ap (λ (h : Held). h.nesting) b.is in
    let deep = b.nested in
    (omega (arith, c.decreases, nesting, deep), (within.0, (within.1, (b.kept, (kept.sound, (owns, (token, (found, c.opens_file.ensures.no c.if-opens_file.false))))))))

pub the-returns-clause-lower : goal.the-returns-clause-lower
the-returns-clause-lower g t c = ok_same c.shown.result 0 _ _ _ c.next_internal.new.self c.shown.new.self c.in_ok-internal.ensures.lower c.shown.ensures.same

pub next_face-returns-in_err-read-clause-does : goal.next_face-returns-in_err-read-clause-does
next_face-returns-in_err-read-clause-does g t c =
    let T = g.T.Teller in
    let F = g.F.Files in
    let h = face_stops (hears T.wanting T.heard) (hears_part T.wanting T.part) _ _ _ _ _ _ _ c.in_err-read.ensures.does in
    search (rules, h)

pub next_face-returns-in-None-clause-does : goal.next_face-returns-in-None-clause-does
next_face-returns-in-None-clause-does g t c =
    let T = g.T.Teller in
    let F = g.F.Files in
    face_ends (hears T.wanting T.heard) (hears_part T.wanting T.part) c.bare_fault.result _ c.fetch_on.new.self c.bare_fault.new.self _ _ _ _ (rw c.in-None.is at c.in_ok-read.ensures.does) c.bare_fault.ensures.is c.bare_fault.ensures.kept

pub next_face-returns-in-Ok-clause-does : goal.next_face-returns-in-Ok-clause-does
next_face-returns-in-Ok-clause-does g t c =
    let T = g.T.Teller in
    let F = g.F.Files in
    let mid = c.fetch_on.new.self in
    face_does (hears T.wanting T.heard) (hears_part T.wanting T.part) (read_at mid.names c.in-Some.read) c.in-Ok.face _ mid _ _ _ _ (rw c.in-Some.is at c.in_ok-read.ensures.does) c.in-Ok.ensures

pub next_face-returns-in-Err-clause-does : goal.next_face-returns-in-Err-clause-does
next_face-returns-in-Err-clause-does g t c =
    let T = g.T.Teller in
    let F = g.F.Files in
    let mid = c.fetch_on.new.self in
    face_out (hears T.wanting T.heard) (hears_part T.wanting T.part) (read_at mid.names c.in-Some.read) c.no_memory.result _ mid c.no_memory.new.self _ _ _ _ (rw c.in-Some.is at c.in_ok-read.ensures.does) c.no_memory.ensures.is c.no_memory.ensures.kept

pub two_faces-returns-in_err-first-clause-does : goal.two_faces-returns-in_err-first-clause-does
two_faces-returns-in_err-first-clause-does g t c =
    let T = g.T.Teller in
    let F = g.F.Files in
    let h = first_face_stops (hears T.wanting T.heard) (hears_part T.wanting T.part) _ _ _ _ _ _ _ c.in_err-first.ensures.does in
    search (rules, h)

pub two_faces-returns-in_err-second-clause-does : goal.two_faces-returns-in_err-second-clause-does
two_faces-returns-in_err-second-clause-does g t c =
    let T = g.T.Teller in
    let F = g.F.Files in
    let h = faces_stop (hears T.wanting T.heard) (hears_part T.wanting T.part) _ _ _ _ _ _ _ _ _ _ c.in_ok-first.ensures.does _ c.in_err-second.ensures.does in
    search (rules, h)

pub two_faces-returns-clause-does : goal.two_faces-returns-clause-does
two_faces-returns-clause-does g t c =
    let T = g.T.Teller in
    let F = g.F.Files in
    faces_do (hears T.wanting T.heard) (hears_part T.wanting T.part) _ _ _ _ _ _ _ _ _ _ c.in_ok-first.ensures.does _ c.in_ok-second.ensures.does

pub amount-returns-then-not-dimension-clause-does : goal.amount-returns-then-not-dimension-clause-does
amount-returns-then-not-dimension-clause-does g t c =
    let T = g.T.Teller in
    let F = g.F.Files in
    amount_as (hears T.wanting T.heard) (hears_part T.wanting T.part) false c.args.dimension _ _ _ _ _ _ _ c.if-not-dimension.true c.int.ensures.does

pub amount-returns-in_err-value-clause-does : goal.amount-returns-in_err-value-clause-does
amount-returns-in_err-value-clause-does g t c =
    let T = g.T.Teller in
    let F = g.F.Files in
    let d = dimension_stops (hears T.wanting T.heard) (hears_part T.wanting T.part) _ _ _ _ _ _ _ c.in_err-value.ensures.does in
    let h = amount_as (hears T.wanting T.heard) (hears_part T.wanting T.part) true c.args.dimension _ _ _ _ _ _ _ c.if-not-dimension.false d in
    rw (passed_on c.from_residual.result c.in_err-value.field-0.0 c.from_residual.ensures) h

pub amount-returns-clause-does : goal.amount-returns-clause-does
amount-returns-clause-does g t c =
    let T = g.T.Teller in
    let F = g.F.Files in
    let d = dimension_does (hears T.wanting T.heard) (hears_part T.wanting T.part) c.in_ok-value.value _ _ _ _ _ _ c.in_ok-value.ensures.does in
    let fits : FitsSigned w32 c.in_ok-value.value.0 = search rules in
    rw (to_z-of_z w32 c.in_ok-value.value.0 fits) (amount_as (hears T.wanting T.heard) (hears_part T.wanting T.part) true c.args.dimension _ _ _ _ _ _ _ c.if-not-dimension.false d)

pub relation-returns-in_err-list-clause-does : goal.relation-returns-in_err-list-clause-does
relation-returns-in_err-list-clause-does g t c =
    let T = g.T.Teller in
    let F = g.F.Files in
    let h = relation_stops (hears T.wanting T.heard) (hears_part T.wanting T.part) _ _ _ _ _ _ _ c.in_err-list.ensures.does in
    search (rules, h)

pub relation-returns-clause-does : goal.relation-returns-clause-does
relation-returns-clause-does g t c =
    let T = g.T.Teller in
    let F = g.F.Files in
    let new = c.gather.new.self in
    let d = relation_does (hears T.wanting T.heard) (hears_part T.wanting T.part) (tokens_at new.names c.in_ok-list.list) _ _ _ _ _ _ c.in_ok-list.ensures.does in
    rw (c.first_code.ensures new.names) (rw c.as_slice.ensures d)

pub compared-returns-in_err-a-clause-does : goal.compared-returns-in_err-a-clause-does
compared-returns-in_err-a-clause-does g t c =
    let T = g.T.Teller in
    let F = g.F.Files in
    let h = compared_first (hears T.wanting T.heard) (hears_part T.wanting T.part) c.args.dimensions _ _ _ _ _ _ _ c.in_err-a.ensures.does in
    rw (passed_on c.from_residual.result c.in_err-a.field-0.0 c.from_residual.ensures) h

pub compared-returns-in_err-relation-clause-does : goal.compared-returns-in_err-relation-clause-does
compared-returns-in_err-relation-clause-does g t c =
    let T = g.T.Teller in
    let F = g.F.Files in
    let h = compared_second (hears T.wanting T.heard) (hears_part T.wanting T.part) c.args.dimensions _ _ _ _ _ _ _ c.in_ok-a.ensures.does _ _ _ _ c.in_err-relation.ensures.does in
    rw (passed_on c.from_residual-in_err-relation.result c.in_err-relation.field-0.0 c.from_residual-in_err-relation.ensures) h

pub compared-returns-in_err-b-clause-does : goal.compared-returns-in_err-b-clause-does
compared-returns-in_err-b-clause-does g t c =
    let T = g.T.Teller in
    let F = g.F.Files in
    let h = compared_third (hears T.wanting T.heard) (hears_part T.wanting T.part) c.args.dimensions _ _ _ _ _ _ _ c.in_ok-a.ensures.does _ _ _ _ _ _ _ c.in_ok-relation.ensures.does _ c.in_err-b.ensures.does in
    rw (passed_on c.from_residual-in_err-b.result c.in_err-b.field-0.0 c.from_residual-in_err-b.ensures) h

pub compared-returns-clause-does : goal.compared-returns-clause-does
compared-returns-clause-does g t c =
    let T = g.T.Teller in
    let F = g.F.Files in
    let a = c.in_ok-a.a in
    let b = c.in_ok-b.b in
    let fits : FitsSigned w32 a = search rules in
    let fits_b : FitsSigned w32 b = search rules in
    let is = c.compares.ensures ∙ ap (λ z. compares c.in_ok-relation.relation z (to_z w32 (of_z w32 b))) (to_z-of_z w32 a fits) ∙ ap (compares c.in_ok-relation.relation a) (to_z-of_z w32 b fits_b) in
    compared_does (hears T.wanting T.heard) (hears_part T.wanting T.part) c.args.dimensions a _ _ _ _ _ _ c.in_ok-a.ensures.does c.in_ok-relation.relation _ _ _ _ _ _ c.in_ok-relation.ensures.does b _ is c.in_ok-b.ensures.does

pub tested-returns-in_err-a-in-If-clause-does : goal.tested-returns-in_err-a-in-If-clause-does
tested-returns-in_err-a-in-If-clause-does g t c =
    let T = g.T.Teller in
    let F = g.F.Files in
    let d = choice_stops (hears T.wanting T.heard) (hears_part T.wanting T.part) two_faces lawful_two_faces (λ p. choose (p.0.code == p.1.code)) _ _ _ _ _ _ _ c.in_err-a-in-If.ensures.does in
    let h = tested_as (hears T.wanting T.heard) (hears_part T.wanting T.part) If c.args.test _ _ _ _ _ _ _ c.in-If.is d in
    rw (passed_on c.from_residual.result c.in_err-a-in-If.field-0.0 c.from_residual.ensures) h

pub tested-returns-in_ok-a-in-If-clause-does : goal.tested-returns-in_ok-a-in-If-clause-does
tested-returns-in_ok-a-in-If-clause-does g t c =
    let T = g.T.Teller in
    let F = g.F.Files in
    let d = choice_does (hears T.wanting T.heard) (hears_part T.wanting T.part) two_faces lawful_two_faces (λ p. choose (p.0.code == p.1.code)) _ _ _ _ _ _ _ _ c.choose.ensures c.in_ok-a-in-If.ensures.does in
    tested_as (hears T.wanting T.heard) (hears_part T.wanting T.part) If c.args.test _ _ _ _ _ _ _ c.in-If.is d

pub tested-returns-in_err-a-in-IfCat-clause-does : goal.tested-returns-in_err-a-in-IfCat-clause-does
tested-returns-in_err-a-in-IfCat-clause-does g t c =
    let T = g.T.Teller in
    let F = g.F.Files in
    let d = choice_stops (hears T.wanting T.heard) (hears_part T.wanting T.part) two_faces lawful_two_faces (λ p. choose (p.0.category == p.1.category)) _ _ _ _ _ _ _ c.in_err-a-in-IfCat.ensures.does in
    let h = tested_as (hears T.wanting T.heard) (hears_part T.wanting T.part) IfCat c.args.test _ _ _ _ _ _ _ c.in-IfCat.is d in
    rw (passed_on c.from_residual-in_err-a-in-IfCat.result c.in_err-a-in-IfCat.field-0.0 c.from_residual-in_err-a-in-IfCat.ensures) h

pub tested-returns-in_ok-a-in-IfCat-clause-does : goal.tested-returns-in_ok-a-in-IfCat-clause-does
tested-returns-in_ok-a-in-IfCat-clause-does g t c =
    let T = g.T.Teller in
    let F = g.F.Files in
    let d = choice_does (hears T.wanting T.heard) (hears_part T.wanting T.part) two_faces lawful_two_faces (λ p. choose (p.0.category == p.1.category)) _ _ _ _ _ _ _ _ c.choose-in-IfCat.ensures c.in_ok-a-in-IfCat.ensures.does in
    tested_as (hears T.wanting T.heard) (hears_part T.wanting T.part) IfCat c.args.test _ _ _ _ _ _ _ c.in-IfCat.is d

pub tested-returns-in_err-same-in-IfX-clause-does : goal.tested-returns-in_err-same-in-IfX-clause-does
tested-returns-in_err-same-in-IfX-clause-does g t c =
    let T = g.T.Teller in
    let F = g.F.Files in
    let d = choice_stops (hears T.wanting T.heard) (hears_part T.wanting T.part) (λ c'. same_meanings) lawful_same_meanings choose _ _ _ _ _ _ _ (does_gets (hears T.wanting T.heard) (hears_part T.wanting T.part) (λ c'. same_meanings) lawful_same_meanings _ c.args.self.now c.same_meanings.new.self _ _ _ _ (T.faults c.args.tell.now) (T.loan c.args.tell.now) c.args.tell.now c.in_err-same-in-IfX.ensures.gets) in
    let h = tested_as (hears T.wanting T.heard) (hears_part T.wanting T.part) IfX c.args.test _ _ _ _ _ _ _ c.in-IfX.is d in
    search (rules, h)

pub tested-returns-in_ok-same-in-IfX-clause-does : goal.tested-returns-in_ok-same-in-IfX-clause-does
tested-returns-in_ok-same-in-IfX-clause-does g t c =
    let T = g.T.Teller in
    let F = g.F.Files in
    let d = choice_does (hears T.wanting T.heard) (hears_part T.wanting T.part) (λ c'. same_meanings) lawful_same_meanings choose _ _ _ _ _ _ _ _ c.choose-in-IfX.ensures (does_gets (hears T.wanting T.heard) (hears_part T.wanting T.part) (λ c'. same_meanings) lawful_same_meanings _ c.args.self.now c.same_meanings.new.self _ _ _ _ (T.faults c.args.tell.now) (T.loan c.args.tell.now) c.args.tell.now c.in_ok-same-in-IfX.ensures.gets) in
    tested_as (hears T.wanting T.heard) (hears_part T.wanting T.part) IfX c.args.test _ _ _ _ _ _ _ c.in-IfX.is d

pub tested-returns-in_err-holds-in-IfNum-clause-does : goal.tested-returns-in_err-holds-in-IfNum-clause-does
tested-returns-in_err-holds-in-IfNum-clause-does g t c =
    let T = g.T.Teller in
    let F = g.F.Files in
    let d = choice_stops (hears T.wanting T.heard) (hears_part T.wanting T.part) (λ c'. compared c' false) (lawful_compared false) choose _ _ _ _ _ _ _ c.in_err-holds-in-IfNum.ensures.does in
    let h = tested_as (hears T.wanting T.heard) (hears_part T.wanting T.part) IfNum c.args.test _ _ _ _ _ _ _ c.in-IfNum.is d in
    rw (passed_on c.from_residual-in_err-holds-in-IfNum.result c.in_err-holds-in-IfNum.field-0.0 c.from_residual-in_err-holds-in-IfNum.ensures) h

pub tested-returns-in_ok-holds-in-IfNum-clause-does : goal.tested-returns-in_ok-holds-in-IfNum-clause-does
tested-returns-in_ok-holds-in-IfNum-clause-does g t c =
    let T = g.T.Teller in
    let F = g.F.Files in
    let d = choice_does (hears T.wanting T.heard) (hears_part T.wanting T.part) (λ c'. compared c' false) (lawful_compared false) choose _ _ _ _ _ _ _ _ c.choose-in-IfNum.ensures c.in_ok-holds-in-IfNum.ensures.does in
    tested_as (hears T.wanting T.heard) (hears_part T.wanting T.part) IfNum c.args.test _ _ _ _ _ _ _ c.in-IfNum.is d

pub tested-returns-in_err-holds-in-IfDim-clause-does : goal.tested-returns-in_err-holds-in-IfDim-clause-does
tested-returns-in_err-holds-in-IfDim-clause-does g t c =
    let T = g.T.Teller in
    let F = g.F.Files in
    let d = choice_stops (hears T.wanting T.heard) (hears_part T.wanting T.part) (λ c'. compared c' true) (lawful_compared true) choose _ _ _ _ _ _ _ c.in_err-holds-in-IfDim.ensures.does in
    let h = tested_as (hears T.wanting T.heard) (hears_part T.wanting T.part) IfDim c.args.test _ _ _ _ _ _ _ c.in-IfDim.is d in
    rw (passed_on c.from_residual-in_err-holds-in-IfDim.result c.in_err-holds-in-IfDim.field-0.0 c.from_residual-in_err-holds-in-IfDim.ensures) h

pub tested-returns-in_ok-holds-in-IfDim-clause-does : goal.tested-returns-in_ok-holds-in-IfDim-clause-does
tested-returns-in_ok-holds-in-IfDim-clause-does g t c =
    let T = g.T.Teller in
    let F = g.F.Files in
    let d = choice_does (hears T.wanting T.heard) (hears_part T.wanting T.part) (λ c'. compared c' true) (lawful_compared true) choose _ _ _ _ _ _ _ _ c.choose-in-IfDim.ensures c.in_ok-holds-in-IfDim.ensures.does in
    tested_as (hears T.wanting T.heard) (hears_part T.wanting T.part) IfDim c.args.test _ _ _ _ _ _ _ c.in-IfDim.is d

pub tested-returns-in_err-number-in-IfOdd-clause-does : goal.tested-returns-in_err-number-in-IfOdd-clause-does
tested-returns-in_err-number-in-IfOdd-clause-does g t c =
    let T = g.T.Teller in
    let F = g.F.Files in
    let d = choice_stops (hears T.wanting T.heard) (hears_part T.wanting T.part) number lawful_number (λ i. choose (is_odd i)) _ _ _ _ _ _ _ c.in_err-number-in-IfOdd.ensures.does in
    let h = tested_as (hears T.wanting T.heard) (hears_part T.wanting T.part) IfOdd c.args.test _ _ _ _ _ _ _ c.in-IfOdd.is d in
    rw (passed_on c.from_residual-in_err-number-in-IfOdd.result c.in_err-number-in-IfOdd.field-0.0 c.from_residual-in_err-number-in-IfOdd.ensures) h

pub tested-returns-in_ok-number-in-IfOdd-clause-does : goal.tested-returns-in_ok-number-in-IfOdd-clause-does
tested-returns-in_ok-number-in-IfOdd-clause-does g t c =
    let T = g.T.Teller in
    let F = g.F.Files in
    let i = c.in_ok-number-in-IfOdd.number in
    let fits : FitsSigned w32 i = search rules in
    let d = choice_does (hears T.wanting T.heard) (hears_part T.wanting T.part) number lawful_number (λ i. choose (is_odd i)) i _ _ _ _ _ _ _ (c.choose-in-IfOdd.ensures ∙ ap choose c.is_odd.ensures ∙ ap (λ z. choose (is_odd z)) (to_z-of_z w32 i fits)) c.in_ok-number-in-IfOdd.ensures.does in
    tested_as (hears T.wanting T.heard) (hears_part T.wanting T.part) IfOdd c.args.test _ _ _ _ _ _ _ c.in-IfOdd.is d

pub tested-returns-in_err-number-in-IfCase-clause-does : goal.tested-returns-in_err-number-in-IfCase-clause-does
tested-returns-in_err-number-in-IfCase-clause-does g t c =
    let T = g.T.Teller in
    let F = g.F.Files in
    let d = choice_stops (hears T.wanting T.heard) (hears_part T.wanting T.part) number lawful_number choose_case _ _ _ _ _ _ _ c.in_err-number-in-IfCase.ensures.does in
    let h = tested_as (hears T.wanting T.heard) (hears_part T.wanting T.part) IfCase c.args.test _ _ _ _ _ _ _ c.in-IfCase.is d in
    rw (passed_on c.from_residual-in_err-number-in-IfCase.result c.in_err-number-in-IfCase.field-0.0 c.from_residual-in_err-number-in-IfCase.ensures) h

pub tested-returns-in_ok-number-in-IfCase-clause-does : goal.tested-returns-in_ok-number-in-IfCase-clause-does
tested-returns-in_ok-number-in-IfCase-clause-does g t c =
    let T = g.T.Teller in
    let F = g.F.Files in
    let i = c.in_ok-number-in-IfCase.number in
    let fits : FitsSigned w32 i = search rules in
    let d = choice_does (hears T.wanting T.heard) (hears_part T.wanting T.part) number lawful_number choose_case i _ _ _ _ _ _ _ (c.choose_case.ensures ∙ ap choose_case (to_z-of_z w32 i fits)) c.in_ok-number-in-IfCase.ensures.does in
    tested_as (hears T.wanting T.heard) (hears_part T.wanting T.part) IfCase c.args.test _ _ _ _ _ _ _ c.in-IfCase.is d

pub tested-returns-in-IfTrue-clause-does : goal.tested-returns-in-IfTrue-clause-does
tested-returns-in-IfTrue-clause-does g t c =
    let T = g.T.Teller in
    let F = g.F.Files in
    tested_as (hears T.wanting T.heard) (hears_part T.wanting T.part) IfTrue c.args.test _ _ _ _ _ _ _ c.in-IfTrue.is (rw c.choose-in-IfTrue.ensures (does_now (hears T.wanting T.heard) (hears_part T.wanting T.part) (choose true) c.args.self.now (outside (F.shelf c.args.files.now) (F.faults c.args.files.now) (T.faults c.args.tell.now) (T.loan c.args.tell.now)) c.args.tell.now c.requires.sound c.requires.running c.requires.owns))

pub tested-returns-in-IfFalse-clause-does : goal.tested-returns-in-IfFalse-clause-does
tested-returns-in-IfFalse-clause-does g t c =
    let T = g.T.Teller in
    let F = g.F.Files in
    tested_as (hears T.wanting T.heard) (hears_part T.wanting T.part) IfFalse c.args.test _ _ _ _ _ _ _ c.in-IfFalse.is (rw c.choose-in-IfFalse.ensures (does_now (hears T.wanting T.heard) (hears_part T.wanting T.part) (choose false) c.args.self.now (outside (F.shelf c.args.files.now) (F.faults c.args.files.now) (T.faults c.args.tell.now) (T.loan c.args.tell.now)) c.args.tell.now c.requires.sound c.requires.running c.requires.owns))

pub conditional-returns-in_err-at-clause-does : goal.conditional-returns-in_err-at-clause-does
conditional-returns-in_err-at-clause-does g t c =
    let T = g.T.Teller in
    let F = g.F.Files in
    let h = unopened (hears T.wanting T.heard) (hears_part T.wanting T.part) c.args.test _ _ _ _ _ _ _ (does_silent (hears T.wanting T.heard) (hears_part T.wanting T.part) (λ c'. open_test) lawful_open_test _ c.args.self.now c.open_test.new.self (outside (F.shelf c.args.files.now) (F.faults c.args.files.now) (T.faults c.args.tell.now) (T.loan c.args.tell.now)) c.args.tell.now (c.in_err-at.ensures.opens (F.shelf c.args.files.now)) c.in_err-at.ensures.kept c.in_err-at.ensures.limit c.in_err-at.ensures.keeps c.in_err-at.ensures.progress c.in_err-at.ensures.files c.requires.owns) in
    rw (passed_on c.from_residual.result c.in_err-at.field-0.0 c.from_residual.ensures) h

pub conditional-returns-in_err-choice-clause-does : goal.conditional-returns-in_err-choice-clause-does
conditional-returns-in_err-choice-clause-does g t c =
    let T = g.T.Teller in
    let F = g.F.Files in
    let h = untested (hears T.wanting T.heard) (hears_part T.wanting T.part) c.args.test c.in_ok-at.at _ _ _ _ _ _ (does_silent (hears T.wanting T.heard) (hears_part T.wanting T.part) (λ c'. open_test) lawful_open_test _ c.args.self.now c.open_test.new.self (outside (F.shelf c.args.files.now) (F.faults c.args.files.now) (T.faults c.args.tell.now) (T.loan c.args.tell.now)) c.args.tell.now (c.in_ok-at.ensures.opens (F.shelf c.args.files.now)) c.in_ok-at.ensures.kept c.in_ok-at.ensures.limit c.in_ok-at.ensures.keeps c.in_ok-at.ensures.progress c.in_ok-at.ensures.files c.requires.owns) _ _ _ _ c.in_err-choice.ensures.does in
    rw (passed_on c.from_residual-in_err-choice.result c.in_err-choice.field-0.0 c.from_residual-in_err-choice.ensures) h

pub conditional-returns-in_err-chosen-clause-does : goal.conditional-returns-in_err-chosen-clause-does
conditional-returns-in_err-chosen-clause-does g t c =
    let T = g.T.Teller in
    let F = g.F.Files in
    let h = unchosen (hears T.wanting T.heard) (hears_part T.wanting T.part) c.args.test c.in_ok-at.at _ _ _ _ _ _ (does_silent (hears T.wanting T.heard) (hears_part T.wanting T.part) (λ c'. open_test) lawful_open_test _ c.args.self.now c.open_test.new.self (outside (F.shelf c.args.files.now) (F.faults c.args.files.now) (T.faults c.args.tell.now) (T.loan c.args.tell.now)) c.args.tell.now (c.in_ok-at.ensures.opens (F.shelf c.args.files.now)) c.in_ok-at.ensures.kept c.in_ok-at.ensures.limit c.in_ok-at.ensures.keeps c.in_ok-at.ensures.progress c.in_ok-at.ensures.files c.requires.owns) c.in_ok-choice.choice _ _ _ _ _ _ c.in_ok-choice.ensures.does _ (does_gets (hears T.wanting T.heard) (hears_part T.wanting T.part) (λ c'. chosen c.in_ok-at.at c.in_ok-choice.choice) (lawful_chosen c.in_ok-at.at c.in_ok-choice.choice) _ c.tested.new.self c.chosen.new.self _ _ _ _ (T.faults c.tested.new.tell) (T.loan c.tested.new.tell) c.tested.new.tell c.in_err-chosen.ensures.gets) in
    rw (passed_on c.from_residual-in_err-chosen.result c.in_err-chosen.field-0.0 c.from_residual-in_err-chosen.ensures) h

pub conditional-returns-clause-does : goal.conditional-returns-clause-does
conditional-returns-clause-does g t c =
    let T = g.T.Teller in
    let F = g.F.Files in
    rw c.new.ensures (conditional_does (hears T.wanting T.heard) (hears_part T.wanting T.part) c.args.test c.in_ok-at.at _ _ _ _ _ _ (does_silent (hears T.wanting T.heard) (hears_part T.wanting T.part) (λ c'. open_test) lawful_open_test _ c.args.self.now c.open_test.new.self (outside (F.shelf c.args.files.now) (F.faults c.args.files.now) (T.faults c.args.tell.now) (T.loan c.args.tell.now)) c.args.tell.now (c.in_ok-at.ensures.opens (F.shelf c.args.files.now)) c.in_ok-at.ensures.kept c.in_ok-at.ensures.limit c.in_ok-at.ensures.keeps c.in_ok-at.ensures.progress c.in_ok-at.ensures.files c.requires.owns) c.in_ok-choice.choice _ _ _ _ _ _ c.in_ok-choice.ensures.does (does_gets (hears T.wanting T.heard) (hears_part T.wanting T.part) (λ c'. chosen c.in_ok-at.at c.in_ok-choice.choice) (lawful_chosen c.in_ok-at.at c.in_ok-choice.choice) _ c.tested.new.self c.chosen.new.self _ _ _ _ (T.faults c.tested.new.tell) (T.loan c.tested.new.tell) c.tested.new.tell c.in_ok-chosen.ensures.gets))

pub next_internal-returns-clause-lower : goal.next_internal-returns-clause-lower
next_internal-returns-clause-lower g t c =
    let first = rw c.in-Some.is at c.in_ok-looked.ensures.lower in
    ok_then c.internal.result 1 0 0 _ _ _ _ c.next_looked.new.self c.internal.new.self first c.internal.ensures.lower (omega arith)

pub conditional-tested-requires : goal.conditional-tested-requires
conditional-tested-requires g t c κs within =
    let e = c.in_ok-at.ensures in
    let low = e.lower (g.F.Files.shelf c.args.files.now) in
    let owns = owns_same (g.F.Files.shelf c.args.files.now) c.args.self.now c.open_test.new.self c.requires.owns e.files in
    (omega (arith, c.decreases, low.nesting), (within.0, (within.1, (e.kept, (e.keeps.sound, owns)))))

pub relation-gather-requires : goal.relation-gather-requires
relation-gather-requires g t c κs within = (omega (arith, c.decreases), (within.0, (within.1, (c.requires.running, (c.requires.sound, c.requires.owns)))))

-- \expandafter

pub expand_after-returns-in_err-first-clause-does : goal.expand_after-returns-in_err-first-clause-does
expand_after-returns-in_err-first-clause-does g t c =
    let T = g.T.Teller in
    let F = g.F.Files in
    let tell = c.args.tell.now in
    let d = does_gets (hears T.wanting T.heard) (hears_part T.wanting T.part) (λ c'. one_token) lawful_one_token _ c.args.self.now c.one_token.new.self _ _ _ _ (T.faults tell) (T.loan tell) tell c.in_err-first.ensures.gets in
    let h = after_stops (hears T.wanting T.heard) (hears_part T.wanting T.part) _ _ _ _ _ _ _ d in
    search (rules, h)

pub expand_after-returns-in_err-front-clause-does : goal.expand_after-returns-in_err-front-clause-does
expand_after-returns-in_err-front-clause-does g t c =
    let T = g.T.Teller in
    let F = g.F.Files in
    let tell = c.args.tell.now in
    let mid = c.one_token.new.self in
    let first = token_at mid.names c.in_ok-first.first in
    let d = does_gets (hears T.wanting T.heard) (hears_part T.wanting T.part) (λ c'. one_token) lawful_one_token _ c.args.self.now mid _ _ _ _ (T.faults tell) (T.loan tell) tell c.in_ok-first.ensures.gets in
    let k = does_gets (hears T.wanting T.heard) (hears_part T.wanting T.part) (λ c'. front) lawful_front _ mid c.front.new.self _ _ _ _ (T.faults tell) (T.loan tell) tell c.in_err-front.ensures.gets in
    let h = after_first (hears T.wanting T.heard) (hears_part T.wanting T.part) first _ _ _ _ _ _ _ _ _ _ d (second_stops (hears T.wanting T.heard) (hears_part T.wanting T.part) first _ _ _ _ _ _ _ k) in
    search (rules, h)

pub expand_after-returns-in-Nothing-clause-does : goal.expand_after-returns-in-Nothing-clause-does
expand_after-returns-in-Nothing-clause-does g t c =
    let T = g.T.Teller in
    let F = g.F.Files in
    let tell = c.args.tell.now in
    let files = c.front.new.files in
    let mid = c.one_token.new.self in
    let now = c.front.new.self in
    let first = token_at mid.names c.in_ok-first.first in
    let d = does_gets (hears T.wanting T.heard) (hears_part T.wanting T.part) (λ c'. one_token) lawful_one_token _ c.args.self.now mid _ _ _ _ (T.faults tell) (T.loan tell) tell c.in_ok-first.ensures.gets in
    let k = does_gets (hears T.wanting T.heard) (hears_part T.wanting T.part) (λ c'. front) lawful_front (Ok fronts.Nothing) mid now _ _ _ _ (T.faults tell) (T.loan tell) tell (rw c.in-Nothing.is at c.in_ok-front.ensures.gets) in
    let e = c.bare_fault.ensures in
    let u = does_fault (hears T.wanting T.heard) (hears_part T.wanting T.part) (λ c'. behind_first c' first fronts.Nothing) (lawful_behind_first first fronts.Nothing) FILE_ENDED [] c.bare_fault.result now c.bare_fault.new.self (outside (F.shelf files) (F.faults files) (T.faults tell) (T.loan tell)) tell refl e.is e.kept k.holds.owns in
    after_first (hears T.wanting T.heard) (hears_part T.wanting T.part) first _ _ _ _ _ _ _ _ _ _ d (second_is (hears T.wanting T.heard) (hears_part T.wanting T.part) first fronts.Nothing _ _ _ _ _ _ _ _ _ _ k u)

pub expand_after-returns-in-Plain-clause-does : goal.expand_after-returns-in-Plain-clause-does
expand_after-returns-in-Plain-clause-does g t c =
    let T = g.T.Teller in
    let F = g.F.Files in
    let tell = c.args.tell.now in
    let files = c.front.new.files in
    let mid = c.one_token.new.self in
    let now = c.front.new.self in
    let new = c.puts.new.self in
    let first = token_at mid.names c.in_ok-first.first in
    let read = read_at now.names c.in-Plain.second in
    let d = does_gets (hears T.wanting T.heard) (hears_part T.wanting T.part) (λ c'. one_token) lawful_one_token _ c.args.self.now mid _ _ _ _ (T.faults tell) (T.loan tell) tell c.in_ok-first.ensures.gets in
    let k = does_gets (hears T.wanting T.heard) (hears_part T.wanting T.part) (λ c'. front) lawful_front (Ok (fronts.Plain read)) mid now _ _ _ _ (T.faults tell) (T.loan tell) tell (rw c.in-Plain.is at c.in_ok-front.ensures.gets) in
    let kept = token_kept mid.names now.names k.progress.names c.in_ok-first.first c.in_ok-first.ensures.within in
    let e = c.puts.ensures in
    let gift = Puts (token_at now.names c.in_ok-first.first ∷ read.token ∷ []) in
    let u = does_as (hears T.wanting T.heard) (hears_part T.wanting T.part) (gift_at new.names) (λ c'. give gift) (lawful_give gift) c.puts.result now new (outside (F.shelf files) (F.faults files) (T.faults tell) (T.loan tell)) tell (by_new gift_at (give gift) c.puts.result now new e.puts e.same) e.kept e.limit e.keeps e.progress e.files k.holds.owns in
    after_first (hears T.wanting T.heard) (hears_part T.wanting T.part) first _ _ _ _ _ _ _ _ _ _ d
    (second_is (hears T.wanting T.heard) (hears_part T.wanting T.part) first (fronts.Plain read) _ _ _ _ _ _ _ _ _ _ k (behind_plain (hears T.wanting T.heard) (hears_part T.wanting T.part) _ first read _ _ _ _ _ _ _ kept u))

pub expand_after-returns-in_err-expand-in-Expands-clause-does : goal.expand_after-returns-in_err-expand-in-Expands-clause-does
expand_after-returns-in_err-expand-in-Expands-clause-does g t c =
    let T = g.T.Teller in
    let F = g.F.Files in
    let tell = c.args.tell.now in
    let mid = c.one_token.new.self in
    let now = c.front.new.self in
    let first = token_at mid.names c.in_ok-first.first in
    let second = token_at now.names c.in-Expands.second in
    let x = expandable_at now.names c.in-Expands.found in
    let d = does_gets (hears T.wanting T.heard) (hears_part T.wanting T.part) (λ c'. one_token) lawful_one_token _ c.args.self.now mid _ _ _ _ (T.faults tell) (T.loan tell) tell c.in_ok-first.ensures.gets in
    let k = does_gets (hears T.wanting T.heard) (hears_part T.wanting T.part) (λ c'. front) lawful_front (Ok (fronts.Expands second x)) mid now _ _ _ _ (T.faults tell) (T.loan tell) tell (rw c.in-Expands.is at c.in_ok-front.ensures.gets) in
    let h = after_first (hears T.wanting T.heard) (hears_part T.wanting T.part) first _ _ _ _ _ _ _ _ _ _ d
    (second_is (hears T.wanting T.heard) (hears_part T.wanting T.part) first (fronts.Expands second x) _ _ _ _ _ _ _ _ _ _ k (behind_stops (hears T.wanting T.heard) (hears_part T.wanting T.part) first second x _ _ _ _ _ _ _ c.in_err-expand-in-Expands.ensures.does)) in
    search (rules, h)

pub expand_after-returns-in_ok-expand-in-Expands-clause-does : goal.expand_after-returns-in_ok-expand-in-Expands-clause-does
expand_after-returns-in_ok-expand-in-Expands-clause-does g t c =
    let T = g.T.Teller in
    let F = g.F.Files in
    let tell = c.args.tell.now in
    let last = c.expand.new.tell in
    let files = c.expand.new.files in
    let mid = c.one_token.new.self in
    let now = c.front.new.self in
    let then = c.expand.new.self in
    let new = c.puts-in-Expands.new.self in
    let first = token_at mid.names c.in_ok-first.first in
    let second = token_at now.names c.in-Expands.second in
    let x = expandable_at now.names c.in-Expands.found in
    let d = does_gets (hears T.wanting T.heard) (hears_part T.wanting T.part) (λ c'. one_token) lawful_one_token _ c.args.self.now mid _ _ _ _ (T.faults tell) (T.loan tell) tell c.in_ok-first.ensures.gets in
    let k = does_gets (hears T.wanting T.heard) (hears_part T.wanting T.part) (λ c'. front) lawful_front (Ok (fronts.Expands second x)) mid now _ _ _ _ (T.faults tell) (T.loan tell) tell (rw c.in-Expands.is at c.in_ok-front.ensures.gets) in
    let l = c.in_ok-expand-in-Expands.ensures.does in
    let within = token_more (length mid.names) (length now.names) k.progress.names.longer c.in_ok-first.first c.in_ok-first.ensures.within in
    let kept = token_kept now.names then.names l.progress.names c.in_ok-first.first within ∙ token_kept mid.names now.names k.progress.names c.in_ok-first.first c.in_ok-first.ensures.within in
    let e = c.puts-in-Expands.ensures in
    let gift = Puts (token_at then.names c.in_ok-first.first ∷ []) in
    let u = does_as (hears T.wanting T.heard) (hears_part T.wanting T.part) (gift_at new.names) (λ c'. give gift) (lawful_give gift) c.puts-in-Expands.result then new (outside (F.shelf files) (F.faults files) (T.faults last) (T.loan last)) last (by_new gift_at (give gift) c.puts-in-Expands.result then new e.puts e.same) e.kept e.limit e.keeps e.progress e.files l.holds.owns in
    after_first (hears T.wanting T.heard) (hears_part T.wanting T.part) first _ _ _ _ _ _ _ _ _ _ d
    (second_is (hears T.wanting T.heard) (hears_part T.wanting T.part) first (fronts.Expands second x) _ _ _ _ _ _ _ _ _ _ k (behind_expands (hears T.wanting T.heard) (hears_part T.wanting T.part) _ first second x _ _ _ _ _ _ _ _ _ _ kept l u))

pub expand_after-returns-in-Plain-clause-lower : goal.expand_after-returns-in-Plain-clause-lower
expand_after-returns-in-Plain-clause-lower g t c =
    let second = rw c.in-Plain.is at c.in_ok-front.ensures.lower in
    ok_same c.puts.result 0 _ _ _ c.front.new.self c.puts.new.self (shrinks_then 1 1 0 _ _ _ _ c.one_token.new.self _ c.in_ok-first.ensures.lower second (omega arith)) c.puts.ensures.same

-- \csname

pub cs_name-returns-in_err-list-clause-does : goal.cs_name-returns-in_err-list-clause-does
cs_name-returns-in_err-list-clause-does g t c =
    let T = g.T.Teller in
    let F = g.F.Files in
    let h = name_stops (hears T.wanting T.heard) (hears_part T.wanting T.part) _ _ _ _ _ _ _ c.in_err-list.ensures.does in
    search (rules, h)

pub cs_name-returns-clause-does : goal.cs_name-returns-clause-does
cs_name-returns-clause-does g t c =
    let T = g.T.Teller in
    let F = g.F.Files in
    let last = c.gather.new.tell in
    let files = c.gather.new.files in
    let mid = c.gather.new.self in
    let new = c.named.new.self in
    let list = tokens_at mid.names c.in_ok-list.list in
    let e = c.named.ensures in
    let d = c.in_ok-list.ensures.does in
    let names = subst (λ l. Local (name_of (tokens_at mid.names l)) (ok_at (gift_at new.names) c.named.result) mid new) c.as_slice.ensures e.names in
    let u = does_as (hears T.wanting T.heard) (hears_part T.wanting T.part) (gift_at new.names) (λ c'. name_of list) (lawful_name_of list) c.named.result mid new (outside (F.shelf files) (F.faults files) (T.faults last) (T.loan last)) last names e.kept e.limit e.keeps e.progress e.files d.holds.owns in
    name_does (hears T.wanting T.heard) (hears_part T.wanting T.part) list _ _ _ _ _ _ _ _ _ _ d u

pub cs_name-returns-clause-lower : goal.cs_name-returns-clause-lower
cs_name-returns-clause-lower g t c = ok_puts c.named.result 0 0 0 _ _ _ c.gather.new.self c.named.new.self c.in_ok-list.ensures.lower c.named.ensures.puts (omega arith)

-- Gathering

pub gather-returns-in_err-front-clause-does : goal.gather-returns-in_err-front-clause-does
gather-returns-in_err-front-clause-does g t c =
    let T = g.T.Teller in
    let F = g.F.Files in
    let i = c.tokens.invariant.on in
    let mid = c.front.new.self in
    let tell = c.tokens.tell in
    let d = did_gets (hears T.wanting T.heard) (hears_part T.wanting T.part) front _ c.tokens.self mid _ _ _ _ (T.faults tell) (T.loan tell) tell c.in_err-front.ensures.gets in
    let h = gather_stops (hears T.wanting T.heard) (hears_part T.wanting T.part) c.args.gathering _ _ _ _ _ _ _ _ _ _ i d in
    search (rules, h)

pub gather-returns-in-Nothing-clause-does : goal.gather-returns-in-Nothing-clause-does
gather-returns-in-Nothing-clause-does g t c =
    let T = g.T.Teller in
    let F = g.F.Files in
    let i = c.tokens.invariant.on in
    let mid = c.front.new.self in
    let tell = c.tokens.tell in
    let d = front_did (hears T.wanting T.heard) (hears_part T.wanting T.part) _ _ c.tokens.self mid _ _ _ _ (T.faults tell) (T.loan tell) tell c.in-Nothing.is c.in_ok-front.ensures.gets in
    let e = c.at_end.ensures in
    gather_ends (hears T.wanting T.heard) (hears_part T.wanting T.part) c.args.gathering c.at_end.result _ _ mid c.at_end.new.self _ _ _ _ _ _ i d e.ends e.kept e.limit e.keeps e.progress e.files

pub gather-returns-in-Nothing-clause-lower : goal.gather-returns-in-Nothing-clause-lower
gather-returns-in-Nothing-clause-lower g t c =
    let low = rw c.in-Nothing.is at c.in_ok-front.ensures.lower in
    ended_shrinks c.args.gathering c.at_end.result _ _ _ _ _ _ c.front.new.self c.at_end.new.self c.tokens.invariant.on.lower low c.at_end.ensures.same c.at_end.ensures.counts

pub gather-returns-in-Nothing-clause-ends : goal.gather-returns-in-Nothing-clause-ends
gather-returns-in-Nothing-clause-ends g t c =
    let at = rw c.in-Nothing.is at c.in_ok-front.ensures.ends in
    ended_ends c.args.gathering c.at_end.result c.front.new.self c.at_end.new.self at c.at_end.ensures.same

pub gather-returns-in-Err-clause-does : goal.gather-returns-in-Err-clause-does
gather-returns-in-Err-clause-does g t c =
    let T = g.T.Teller in
    let F = g.F.Files in
    let i = c.tokens.invariant.on in
    let mid = c.front.new.self in
    let tell = c.tokens.tell in
    let d = front_did (hears T.wanting T.heard) (hears_part T.wanting T.part) _ _ c.tokens.self mid _ _ _ _ (T.faults tell) (T.loan tell) tell c.in-Plain.is c.in_ok-front.ensures.gets in
    let files = c.front.new.files in
    let e = c.no_memory.ensures in
    gather_broken (hears T.wanting T.heard) (hears_part T.wanting T.part) c.args.gathering (Plain (read_at mid.names c.in-Plain.read)) _ _ _ mid _ _ _ _ _ _ _ _ _ i d (did_out (hears T.wanting T.heard) (hears_part T.wanting T.part) _ c.no_memory.result mid c.no_memory.new.self (outside (F.shelf files) (F.faults files) (T.faults tell) (T.loan tell)) tell e.is e.kept d.holds.owns)

pub gather-returns-in-Err-push-clause-does : goal.gather-returns-in-Err-push-clause-does
gather-returns-in-Err-push-clause-does g t c =
    let T = g.T.Teller in
    let F = g.F.Files in
    let i = c.tokens.invariant.on in
    let mid = c.front.new.self in
    let tell = c.tokens.tell in
    let d = front_did (hears T.wanting T.heard) (hears_part T.wanting T.part) _ _ c.tokens.self mid _ _ _ _ (T.faults tell) (T.loan tell) tell c.in-Plain.is c.in_ok-front.ensures.gets in
    let files = c.front.new.files in
    let e = c.no_memory-in-Err-push.ensures in
    gather_broken (hears T.wanting T.heard) (hears_part T.wanting T.part) c.args.gathering (Plain (read_at mid.names c.in-Plain.read)) _ _ _ mid _ _ _ _ _ _ _ _ _ i d (did_out (hears T.wanting T.heard) (hears_part T.wanting T.part) _ c.no_memory-in-Err-push.result mid c.no_memory-in-Err-push.new.self (outside (F.shelf files) (F.faults files) (T.faults tell) (T.loan tell)) tell e.is e.kept d.holds.owns)

pub gather-returns-in_err-leave-in-Yields-clause-does : goal.gather-returns-in_err-leave-in-Yields-clause-does
gather-returns-in_err-leave-in-Yields-clause-does g t c =
    let T = g.T.Teller in
    let F = g.F.Files in
    let i = c.tokens.invariant.on in
    let mid = c.front.new.self in
    let tell = c.tokens.tell in
    let d = front_did (hears T.wanting T.heard) (hears_part T.wanting T.part) _ _ c.tokens.self mid _ _ _ _ (T.faults tell) (T.loan tell) tell c.in-Plain.is c.in_ok-front.ensures.gets in
    let is = rw c.in-Yields.is at c.in-Ok.ensures.is in
    let e = c.in_err-leave-in-Yields.ensures in
    let h = gather_unleft (hears T.wanting T.heard) (hears_part T.wanting T.part) c.args.gathering _ (tokens_at mid.names c.in-Yields.list) c.in-Plain.read _ _ mid c.leave.new.self _ _ _ _ _ _ i d is e.leaves e.kept e.limit e.progress e.files in
    rw (passed_on c.from_residual-in_err-leave-in-Yields.result c.in_err-leave-in-Yields.field-0.0 c.from_residual-in_err-leave-in-Yields.ensures) h

pub gather-returns-in-Yields-clause-does : goal.gather-returns-in-Yields-clause-does
gather-returns-in-Yields-clause-does g t c =
    let T = g.T.Teller in
    let F = g.F.Files in
    let i = c.tokens.invariant.on in
    let mid = c.front.new.self in
    let tell = c.tokens.tell in
    let d = front_did (hears T.wanting T.heard) (hears_part T.wanting T.part) _ _ c.tokens.self mid _ _ _ _ (T.faults tell) (T.loan tell) tell c.in-Plain.is c.in_ok-front.ensures.gets in
    let is = rw c.in-Yields.is at c.in-Ok.ensures.is in
    let e = c.in_ok-leave-in-Yields.ensures in
    gather_yields (hears T.wanting T.heard) (hears_part T.wanting T.part) c.args.gathering c.in-Yields.list c.in-Plain.read _ _ mid c.leave.new.self _ _ _ _ _ _ i d is e.leaves e.kept e.keeps e.progress e.files e.names

pub gather-returns-in-Yields-clause-lower : goal.gather-returns-in-Yields-clause-lower
gather-returns-in-Yields-clause-lower g t c =
    let mid = c.front.new.self in
    let is = rw c.in-Yields.is at c.in-Ok.ensures.is in
    let low = rw c.in-Plain.is at c.in_ok-front.ensures.lower in
    gathered_left c.args.gathering mid.names _ _ c.in-Yields.list c.in-Plain.read _ _ _ _ _ mid c.leave.new.self c.tokens.invariant.on.lower low is c.in_ok-leave-in-Yields.ensures.puts

pub gather-returns-in-Yields-clause-ends : goal.gather-returns-in-Yields-clause-ends
gather-returns-in-Yields-clause-ends g t c =
    let mid = c.front.new.self in
    let is = rw c.in-Yields.is at c.in-Ok.ensures.is in
    yields_ends c.args.gathering _ _ (tokens_at mid.names c.in-Yields.list) (read_at mid.names c.in-Plain.read) c.leave.new.self.input.sources is

pub gather-returns-in-Refuses-clause-does : goal.gather-returns-in-Refuses-clause-does
gather-returns-in-Refuses-clause-does g t c =
    let T = g.T.Teller in
    let F = g.F.Files in
    let i = c.tokens.invariant.on in
    let mid = c.front.new.self in
    let tell = c.tokens.tell in
    let d = front_did (hears T.wanting T.heard) (hears_part T.wanting T.part) _ _ c.tokens.self mid _ _ _ _ (T.faults tell) (T.loan tell) tell c.in-Plain.is c.in_ok-front.ensures.gets in
    let is = rw c.in-Refuses.is at c.in-Ok.ensures.is in
    let e = c.bare_fault.ensures in
    gather_refuses (hears T.wanting T.heard) (hears_part T.wanting T.part) c.args.gathering c.in-Refuses.code _ c.in-Plain.read _ _ mid _ _ _ _ _ _ _ i d is e.is e.kept

pub gather-tokens-preserved : goal.gather-tokens-preserved
gather-tokens-preserved g t c =
    let T = g.T.Teller in
    let F = g.F.Files in
    let i = c.tokens.invariant.on in
    let mid = c.front.new.self in
    let tell = c.tokens.tell in
    let d = front_did (hears T.wanting T.heard) (hears_part T.wanting T.part) _ _ c.tokens.self mid _ _ _ _ (T.faults tell) (T.loan tell) tell c.in-Plain.is c.in_ok-front.ensures.gets in
    let is = rw c.in-TooShort.is at c.in-Ok.ensures.is in
    let low = rw c.in-Plain.is at c.in_ok-front.ensures.lower in
    let within = rw c.in-Plain.is at c.in_ok-front.ensures.within in
    let on = gathers_token (hears T.wanting T.heard) (hears_part T.wanting T.part) c.args.gathering c.in-Plain.read _ _ mid _ _ _ _ _ _ i d low within is in
    record { on = rw c.in-Ok-push.ensures on; begun = c.in_ok-front.ensures.begun ∙ c.tokens.invariant.begun; limit = d.progress.limit ∙ c.tokens.invariant.limit }

pub gather-returns-in_err-list-in-Expands-clause-does : goal.gather-returns-in_err-list-in-Expands-clause-does
gather-returns-in_err-list-in-Expands-clause-does g t c =
    let T = g.T.Teller in
    let F = g.F.Files in
    let i = c.tokens.invariant.on in
    let mid = c.front.new.self in
    let tell = c.tokens.tell in
    let d = front_did (hears T.wanting T.heard) (hears_part T.wanting T.part) _ _ c.tokens.self mid _ _ _ _ (T.faults tell) (T.loan tell) tell c.in-Expands.is c.in_ok-front.ensures.gets in
    let h = gather_unexpanded (hears T.wanting T.heard) (hears_part T.wanting T.part) c.args.gathering (token_at mid.names c.in-Expands.token) (expandable_at mid.names c.in-Expands.found) _ _ _ mid _ _ _ _ _ _ _ _ _ i d c.in_err-list-in-Expands.ensures.does in
    rw (passed_on c.from_residual-in_err-list-in-Expands.result c.in_err-list-in-Expands.field-0.0 c.from_residual-in_err-list-in-Expands.ensures) h

pub gather-returns-in-Err-extend-clause-does : goal.gather-returns-in-Err-extend-clause-does
gather-returns-in-Err-extend-clause-does g t c =
    let T = g.T.Teller in
    let F = g.F.Files in
    let i = c.tokens.invariant.on in
    let mid = c.front.new.self in
    let tell = c.tokens.tell in
    let d = front_did (hears T.wanting T.heard) (hears_part T.wanting T.part) _ _ c.tokens.self mid _ _ _ _ (T.faults tell) (T.loan tell) tell c.in-Expands.is c.in_ok-front.ensures.gets in
    let e = c.no_memory-in-Err-extend.ensures in
    gather_short (hears T.wanting T.heard) (hears_part T.wanting T.part) c.args.gathering (token_at mid.names c.in-Expands.token) (expandable_at mid.names c.in-Expands.found) c.in_ok-list-in-Expands.list _ _ _ mid c.at_once.new.self _ _ _ _ _ _ _ _ _ i d c.in_ok-list-in-Expands.ensures.does e.is e.kept

pub gather-rounds-preserved : goal.gather-rounds-preserved
gather-rounds-preserved g t c =
    let T = g.T.Teller in
    let F = g.F.Files in
    let i = c.tokens.invariant.on in
    let mid = c.front.new.self in
    let tell = c.tokens.tell in
    let d = front_did (hears T.wanting T.heard) (hears_part T.wanting T.part) _ _ c.tokens.self mid _ _ _ _ (T.faults tell) (T.loan tell) tell c.in-Expands.is c.in_ok-front.ensures.gets in
    let x = c.in_ok-list-in-Expands.ensures in
    let low = rw c.in-Expands.is at c.in_ok-front.ensures.lower in
    let on = gathers_expansion (hears T.wanting T.heard) (hears_part T.wanting T.part) c.args.gathering (token_at mid.names c.in-Expands.token) (expandable_at mid.names c.in-Expands.found) c.in_ok-list-in-Expands.list _ _ mid c.at_once.new.self _ _ _ _ _ _ _ _ i d low x.does x.begins x.within in
    rw c.in-Ok-extend.ensures on

pub at_once-returns-in_err-expand-clause-does : goal.at_once-returns-in_err-expand-clause-does
at_once-returns-in_err-expand-clause-does g t c =
    let T = g.T.Teller in
    let mine = c.args.self.now in
    let is = sym (c.copies.ensures mine.names) ∙ c.if-copies.false in
    let h = once_stops (hears T.wanting T.heard) (hears_part T.wanting T.part) (token_at mine.names c.args.token) (expandable_at mine.names c.args.found) (copies c.args.gathering (expandable_at mine.names c.args.found)) _ _ _ _ _ _ _ is c.in_err-expand.ensures.does in
    search (rules, h)

pub at_once-returns-in_ok-expand-clause-does : goal.at_once-returns-in_ok-expand-clause-does
at_once-returns-in_ok-expand-clause-does g t c =
    let T = g.T.Teller in
    let mine = c.args.self.now in
    let is = sym (c.copies.ensures mine.names) ∙ c.if-copies.false in
    rw c.new.ensures (once_expanded (hears T.wanting T.heard) (hears_part T.wanting T.part) (token_at mine.names c.args.token) (expandable_at mine.names c.args.found) (copies c.args.gathering (expandable_at mine.names c.args.found)) _ _ _ _ _ _ is c.in_ok-expand.ensures.does)

-- what \the gives at once

pub copy-returns-in_err-begin-clause-does : goal.copy-returns-in_err-begin-clause-does
copy-returns-in_err-begin-clause-does g t c =
    let T = g.T.Teller in
    let F = g.F.Files in
    let b = c.in_err-begin.ensures in
    let mine = c.args.self.now in
    let d = begins_did (hears T.wanting T.heard) (hears_part T.wanting T.part) _ mine c.begin.new.self (outside (F.shelf c.args.files.now) (F.faults c.args.files.now) (T.faults c.args.tell.now) (T.loan c.args.tell.now)) c.args.tell.now c.requires.sound b.begins b.kept tt tt b.limit b.progress b.files c.requires.owns in
    let h = copy_stops (hears T.wanting T.heard) (hears_part T.wanting T.part) (token_at mine.names c.args.token) _ _ _ _ _ d in
    rw (passed_on c.from_residual.result c.in_err-begin.field-0.0 c.from_residual.ensures) h

pub copy-returns-in_err-internal-clause-does : goal.copy-returns-in_err-internal-clause-does
copy-returns-in_err-internal-clause-does g t c =
    let T = g.T.Teller in
    let F = g.F.Files in
    let b = c.in_ok-begin.ensures in
    let mine = c.args.self.now in
    let d = begins_did (hears T.wanting T.heard) (hears_part T.wanting T.part) _ mine c.begin.new.self (outside (F.shelf c.args.files.now) (F.faults c.args.files.now) (T.faults c.args.tell.now) (T.loan c.args.tell.now)) c.args.tell.now c.requires.sound b.begins b.kept b.is b.within b.limit b.progress b.files c.requires.owns in
    let h = copy_unread (hears T.wanting T.heard) (hears_part T.wanting T.part) (token_at mine.names c.args.token) _ _ _ _ _ _ _ _ d c.in_err-internal.ensures.does in
    rw (passed_on c.from_residual-in_err-internal.result c.in_err-internal.field-0.0 c.from_residual-in_err-internal.ensures) h

pub copy-returns-clause-does : goal.copy-returns-clause-does
copy-returns-clause-does g t c =
    let T = g.T.Teller in
    let F = g.F.Files in
    let b = c.in_ok-begin.ensures in
    let l = c.in_ok-internal.ensures in
    let e = c.copied.ensures in
    let mine = c.args.self.now in
    let now = c.next_internal.new.self in
    let new = c.copied.new.self in
    let d = begins_did (hears T.wanting T.heard) (hears_part T.wanting T.part) _ mine c.begin.new.self (outside (F.shelf c.args.files.now) (F.faults c.args.files.now) (T.faults c.args.tell.now) (T.loan c.args.tell.now)) c.args.tell.now c.requires.sound b.begins b.kept b.is b.within b.limit b.progress b.files c.requires.owns in
    let names = subst (λ (h : Held). Extends h.names now.names) b.is l.does.progress.names in
    let u = copied_did (hears T.wanting T.heard) (hears_part T.wanting T.part) (tokens_at new.names) (token_at mine.names c.args.token) _ (internal_at now.names c.in_ok-internal.internal) c.copied.result now new _ _ _ _ _ _ _ _ (token_kept mine.names now.names names c.args.token c.requires.token) e.copies e.stops e.keeps e.limit e.progress e.files l.does.holds.owns in
    copy_ends (hears T.wanting T.heard) (hears_part T.wanting T.part) (token_at mine.names c.args.token) (internal_at now.names c.in_ok-internal.internal) _ _ _ _ _ _ _ _ _ _ _ d l.does u

pub copy-returns-clause-begins : goal.copy-returns-clause-begins
copy-returns-clause-begins g t c =
    let b = c.in_ok-begin.ensures in
    let e = c.copied.ensures in
    ended_begun _ _ c.args.self.now c.begin.new.self c.next_internal.new.self c.copied.new.self c.copied.result b.is b.within c.in_ok-internal.ensures.lower e.nesting e.begun e.progress.limit

pub copy-next_internal-requires : goal.copy-next_internal-requires
copy-next_internal-requires g t c κs within =
    let b = c.in_ok-begin.ensures in
    let mine = c.args.self.now in
    let mid = c.begin.new.self in
    let kept = begun_kept mine mid b.is b.within c.requires.sound in
    let owns = owns_same (g.F.Files.shelf c.args.files.now) mine mid c.requires.owns b.files in
    let nesting = ap (λ (h : Held). h.nesting) b.is in
    let deep = b.nested in
    (omega (arith, c.decreases, nesting, deep), (within.0, (within.1, (b.kept, (kept.sound, owns)))))

-- The names of files

pub file_name-returns-in_err-read-clause-does : goal.file_name-returns-in_err-read-clause-does
file_name-returns-in_err-read-clause-does g t c =
    let T = g.T.Teller in
    let F = g.F.Files in
    let tell = c.args.tell.now in
    let d = does_gets (hears T.wanting T.heard) (hears_part T.wanting T.part) (λ c'. peeked) lawful_peeked _ c.args.self.now c.peek.new.self _ _ _ _ (T.faults tell) (T.loan tell) tell c.in_err-read.ensures.gets in
    let h = name_unseen (hears T.wanting T.heard) (hears_part T.wanting T.part) _ _ _ _ _ _ _ d in
    search (rules, h)

pub file_name-returns-then-begins_group-clause-does : goal.file_name-returns-then-begins_group-clause-does
file_name-returns-then-begins_group-clause-does g t c =
    let T = g.T.Teller in
    let F = g.F.Files in
    let tell = c.args.tell.now in
    let mid = c.peek.new.self in
    let x = option_map (read_at mid.names) c.in_ok-read.read in
    let d = does_gets (hears T.wanting T.heard) (hears_part T.wanting T.part) (λ c'. peeked) lawful_peeked (Ok x) c.args.self.now mid _ _ _ _ (T.faults tell) (T.loan tell) tell c.in_ok-read.ensures.gets in
    name_seen (hears T.wanting T.heard) (hears_part T.wanting T.part) x true _ _ _ _ _ _ _ _ _ _ (sym c.if-begins_group.true ∙ c.begins_group.ensures mid.names) d c.name_argument.ensures.does

pub file_name-returns-else-begins_group-clause-does : goal.file_name-returns-else-begins_group-clause-does
file_name-returns-else-begins_group-clause-does g t c =
    let T = g.T.Teller in
    let F = g.F.Files in
    let tell = c.args.tell.now in
    let mid = c.peek.new.self in
    let x = option_map (read_at mid.names) c.in_ok-read.read in
    let d = does_gets (hears T.wanting T.heard) (hears_part T.wanting T.part) (λ c'. peeked) lawful_peeked (Ok x) c.args.self.now mid _ _ _ _ (T.faults tell) (T.loan tell) tell c.in_ok-read.ensures.gets in
    name_seen (hears T.wanting T.heard) (hears_part T.wanting T.part) x false _ _ _ _ _ _ _ _ _ _ (sym c.if-begins_group.false ∙ c.begins_group.ensures mid.names) d c.plain_name.ensures.does

pub file_name-returns-then-begins_group-clause-lower : goal.file_name-returns-then-begins_group-clause-lower
file_name-returns-then-begins_group-clause-lower g t c = ok_then c.name_argument.result 0 0 0 _ _ _ _ c.peek.new.self c.name_argument.new.self c.in_ok-read.ensures.lower c.name_argument.ensures.lower (omega arith)

pub file_name-returns-else-begins_group-clause-lower : goal.file_name-returns-else-begins_group-clause-lower
file_name-returns-else-begins_group-clause-lower g t c = ok_then c.plain_name.result 0 0 0 _ _ _ _ c.peek.new.self c.plain_name.new.self c.in_ok-read.ensures.lower c.plain_name.ensures.lower (omega arith)

pub plain_name-returns-in_err-list-clause-does : goal.plain_name-returns-in_err-list-clause-does
plain_name-returns-in_err-list-clause-does g t c =
    let T = g.T.Teller in
    let F = g.F.Files in
    let h = plain_stops (hears T.wanting T.heard) (hears_part T.wanting T.part) _ _ _ _ _ _ _ c.in_err-list.ensures.does in
    search (rules, h)

pub plain_name-returns-clause-does : goal.plain_name-returns-clause-does
plain_name-returns-clause-does g t c =
    let T = g.T.Teller in
    let F = g.F.Files in
    let last = c.gather.new.tell in
    let files = c.gather.new.files in
    let mid = c.gather.new.self in
    let new = c.text.new.self in
    let list = tokens_at mid.names c.in_ok-list.list in
    let e = c.text.ensures in
    let d = c.in_ok-list.ensures.does in
    let reads = subst (λ l. Local (give (bytes_of (tokens_at mid.names l))) (ok_at string_bytes c.text.result) mid new) c.as_slice.ensures e.reads in
    let u = does_as (hears T.wanting T.heard) (hears_part T.wanting T.part) string_bytes (λ c'. give (bytes_of list)) (lawful_give (bytes_of list)) c.text.result mid new (outside (F.shelf files) (F.faults files) (T.faults last) (T.loan last)) last reads e.kept e.limit e.keeps e.progress e.files d.holds.owns in
    plain_does (hears T.wanting T.heard) (hears_part T.wanting T.part) list _ _ _ _ _ _ _ _ _ _ d u

pub plain_name-returns-clause-lower : goal.plain_name-returns-clause-lower
plain_name-returns-clause-lower g t c = ok_same c.text.result 0 _ _ _ c.gather.new.self c.text.new.self c.in_ok-list.ensures.lower c.text.ensures.same

pub name_argument-returns-in_err-argument_alone-clause-does : goal.name_argument-returns-in_err-argument_alone-clause-does
name_argument-returns-in_err-argument_alone-clause-does g t c =
    let T = g.T.Teller in
    let F = g.F.Files in
    let tell = c.args.tell.now in
    let d = does_gets (hears T.wanting T.heard) (hears_part T.wanting T.part) (λ c'. argument_alone) lawful_argument_alone _ c.args.self.now c.argument_alone.new.self _ _ _ _ (T.faults tell) (T.loan tell) tell c.in_err-argument_alone.ensures.gets in
    let h = argument_stops (hears T.wanting T.heard) (hears_part T.wanting T.part) _ _ _ _ _ _ _ d in
    search (rules, h)

pub name_argument-returns-in_err-list-clause-does : goal.name_argument-returns-in_err-list-clause-does
name_argument-returns-in_err-list-clause-does g t c =
    let T = g.T.Teller in
    let F = g.F.Files in
    let tell = c.args.tell.now in
    let d = does_gets (hears T.wanting T.heard) (hears_part T.wanting T.part) (λ c'. argument_alone) lawful_argument_alone (Ok tt) c.args.self.now c.argument_alone.new.self _ _ _ _ (T.faults tell) (T.loan tell) tell c.in_ok-argument_alone.ensures.gets in
    let h = argument_unread (hears T.wanting T.heard) (hears_part T.wanting T.part) _ _ _ _ _ _ _ _ _ _ d c.in_err-list.ensures.does in
    search (rules, h)

pub name_argument-returns-clause-does : goal.name_argument-returns-clause-does
name_argument-returns-clause-does g t c =
    let T = g.T.Teller in
    let F = g.F.Files in
    let tell = c.args.tell.now in
    let last = c.all_left.new.tell in
    let files = c.all_left.new.files in
    let mid = c.all_left.new.self in
    let new = c.characters.new.self in
    let list = tokens_at mid.names c.in_ok-list.list in
    let e = c.characters.ensures in
    let d = does_gets (hears T.wanting T.heard) (hears_part T.wanting T.part) (λ c'. argument_alone) lawful_argument_alone (Ok tt) c.args.self.now c.argument_alone.new.self _ _ _ _ (T.faults tell) (T.loan tell) tell c.in_ok-argument_alone.ensures.gets in
    let k = c.in_ok-list.ensures.does in
    let reads = subst (λ l. Local (characters (tokens_at mid.names l)) (ok_at string_bytes c.characters.result) mid new) c.as_slice.ensures e.reads in
    let u = does_as (hears T.wanting T.heard) (hears_part T.wanting T.part) string_bytes (λ c'. characters list) (lawful_characters list) c.characters.result mid new (outside (F.shelf files) (F.faults files) (T.faults last) (T.loan last)) last reads e.kept e.limit e.keeps e.progress e.files k.holds.owns in
    argument_does (hears T.wanting T.heard) (hears_part T.wanting T.part) list _ _ _ _ _ _ _ _ _ _ _ _ _ d k u

pub name_argument-returns-clause-lower : goal.name_argument-returns-clause-lower
name_argument-returns-clause-lower g t c =
    ok_same c.characters.result 0 _ _ _ c.all_left.new.self c.characters.new.self (shrinks_then 0 0 0 _ _ _ _ c.argument_alone.new.self c.all_left.new.self c.in_ok-argument_alone.ensures.lower c.in_ok-list.ensures.lower (omega arith)) c.characters.ensures.same

pub all_left-returns-in_err-list-clause-does : goal.all_left-returns-in_err-list-clause-does
all_left-returns-in_err-list-clause-does g t c =
    let T = g.T.Teller in
    let F = g.F.Files in
    let h = left_stops (hears T.wanting T.heard) (hears_part T.wanting T.part) _ _ _ _ _ _ _ c.in_err-list.ensures.does in
    search (rules, h)

pub all_left-returns-clause-does : goal.all_left-returns-clause-does
all_left-returns-clause-does g t c =
    let T = g.T.Teller in
    let F = g.F.Files in
    let hear = hears T.wanting T.heard in
    let part = hears_part T.wanting T.part in
    let now = c.gather.new.self in
    let h = the_view c.self.inside in
    let before = outside (F.shelf c.args.files.now) (F.faults c.args.files.now) (T.faults c.args.tell.now) (T.loan c.args.tell.now) in
    let after = outside (F.shelf c.gather.new.files) (F.faults c.gather.new.files) (T.faults c.gather.new.tell) (T.loan c.gather.new.tell) in
    let d = subst (λ n. Does hear part (λ m. (level m).gather All []) (Ok (tokens_at n.names c.in_ok-list.list)) c.args.self.now n before after c.args.tell.now c.gather.new.tell) (sym c.self.view_is) c.in_ok-list.ensures.does in
    let at = subst (λ n. IsAtFence n.input.sources) (sym c.self.view_is) c.in_ok-list.ensures.ends in
    rw c.unfence.ensures (left_does hear part _ _ c.args.self.now h _ before after after c.args.tell.now c.gather.new.tell c.gather.new.tell d (up_does hear part (tokens_at h.names c.in_ok-list.list) h after c.gather.new.tell at d.keeps.sound d.stops.kept d.holds.owns))

-- \input

pub expand-file_name-requires : goal.expand-file_name-requires
expand-file_name-requires g t c κs within =
    let b = c.in_ok-begin.ensures in
    let mine = c.args.self.now in
    let mid = c.begin.new.self in
    let kept = begun_kept mine mid b.is b.within c.requires.sound in
    let owns = owns_same (g.F.Files.shelf c.args.files.now) mine mid c.requires.owns b.files in
    let nesting = ap (λ (h : Held). h.nesting) b.is in
    let deep = b.nested in
    (omega (arith, c.decreases, nesting, deep), (within.0, (within.1, (b.kept, (kept.sound, owns)))))

pub expand-open-requires : goal.expand-open-requires
expand-open-requires g t c =
    let b = c.in_ok-begin.ensures in
    let d = c.in_ok-name.ensures.does in
    let mine = c.args.self.now in
    let mid = c.begin.new.self in
    let now = c.file_name.new.self in
    let names = subst (λ (h : Held). Extends h.names now.names) b.is d.progress.names in
    let nesting = ap (λ (h : Held). h.nesting) b.is in
    let same = c.in_ok-name.ensures.lower.nesting in
    record { running = d.stops.kept; sound = d.keeps.sound; owns = d.holds.owns; nested = omega (arith, nesting, same); token = token_more (length mine.names) (length now.names) names.longer c.args.token c.requires.token }

pub expand-returns-in_err-name-clause-does : goal.expand-returns-in_err-name-clause-does
expand-returns-in_err-name-clause-does g t c =
    let T = g.T.Teller in
    let F = g.F.Files in
    let b = c.in_ok-begin.ensures in
    let mine = c.args.self.now in
    let d = begins_did (hears T.wanting T.heard) (hears_part T.wanting T.part) _ mine c.begin.new.self (outside (F.shelf c.args.files.now) (F.faults c.args.files.now) (T.faults c.args.tell.now) (T.loan c.args.tell.now)) c.args.tell.now c.requires.sound b.begins b.kept b.is b.within b.limit b.progress b.files c.requires.owns in
    let is = ap (expandable_at mine.names) (c.opens_file.ensures.yes c.if-opens_file.true) in
    let h = expand_same (hears T.wanting T.heard) (hears_part T.wanting T.part) (token_at mine.names c.args.token) Input _ _ _ _ _ _ _ _ (sym is) (expand_unnamed (hears T.wanting T.heard) (hears_part T.wanting T.part) (token_at mine.names c.args.token) _ _ _ _ _ _ _ _ d c.in_err-name.ensures.does) in
    rw (passed_on c.from_residual-in_err-name.result c.in_err-name.field-0.0 c.from_residual-in_err-name.ensures) h

pub expand-returns-then-opens_file-clause-does : goal.expand-returns-then-opens_file-clause-does
expand-returns-then-opens_file-clause-does g t c =
    let T = g.T.Teller in
    let F = g.F.Files in
    let b = c.in_ok-begin.ensures in
    let mine = c.args.self.now in
    let now = c.file_name.new.self in
    let x = c.in_ok-name.ensures.does in
    let d = begins_did (hears T.wanting T.heard) (hears_part T.wanting T.part) _ mine c.begin.new.self (outside (F.shelf c.args.files.now) (F.faults c.args.files.now) (T.faults c.args.tell.now) (T.loan c.args.tell.now)) c.args.tell.now c.requires.sound b.begins b.kept b.is b.within b.limit b.progress b.files c.requires.owns in
    let names = subst (λ (h : Held). Extends h.names now.names) b.is x.progress.names in
    let kept = rw (token_kept mine.names now.names names c.args.token c.requires.token) at c.open.ensures.tells in
    let u = rw c.deref.ensures at kept in
    rw (c.opens_file.ensures.yes c.if-opens_file.true) (expand_opens (hears T.wanting T.heard) (hears_part T.wanting T.part) (token_at mine.names c.args.token) (string_bytes c.in_ok-name.name) _ _ _ _ _ _ _ _ _ _ _ d x u)

pub expand-returns-then-opens_file-clause-begins : goal.expand-returns-then-opens_file-clause-begins
expand-returns-then-opens_file-clause-begins g t c =
    let b = c.in_ok-begin.ensures in
    opened_begun _ _ c.args.self.now c.begin.new.self c.file_name.new.self c.open.new.self c.open.result b.is b.within c.in_ok-name.ensures.lower c.open.ensures.passes
