-- How a command and a run may end.
use Rattle.std.proofs.Common.{◌≡◌, ◌≢◌, ℕ, List, [], ◌∷◌, ◌++◌, IsTrue, Option, Some, None, Result, Ok, Err, refl, sym, ap, ◌∙◌, subst, arith, codes, append-nil, append_assoc}
use Rattle.std.specs.Option.{option_to_list}
use Rattle.texml_base.specs.Outside.{Shelf, Ink, inked}
use Rattle.texml_base.specs.Rising.{Rose}
use Rattle.texml_base.proofs.Taking.{inked-nil}
use Rattle.texml_watch.specs.declared.record.Record.{Record}
use Rattle.texml_watch.specs.Trace.{trace, trace_line}
use Rattle.texml_watch.specs.Writing.{Lent, Wrote, BrokeOff}
use Rattle.texml_watch.proofs.Hearing.{Wrote-trace, Wrote-within, Wrote-front, WroteWithin-front}
use Rattle.texml_expand.specs.declared.stop.Stop.{Stop}
use Rattle.texml_expand.specs.declared.stop.Stop.TheVariants as stop
use Rattle.texml_expand.specs.State.{State, End, Answer, Tex, Limit, Done, Ended, added}
use Rattle.texml_expand.specs.Held.{Held, state_of, IsAtLimit}
use Rattle.texml_expand.specs.Contract.{DecidesOn, ReadsBecause, TellsBecause}
use Rattle.texml_expand.specs.Hearing.{HeardLast, MeetsEnd, MeetsFirst, MeetsCut, MeetsPart, Follows}
use Rattle.texml_top.specs.Request.{Request, asked}
use Rattle.texml_top.specs.declared.request.Command.{Command}
use Rattle.texml_top.specs.declared.request.Command.TheVariants.{Convert, Expand}
use Rattle.texml_top.specs.Digest.{digests}
use Rattle.texml_tree.specs.declared.model_fault.ModelFault.{ModelFault}
use Rattle.texml_top.specs.Document.{document}
use Rattle.texml_top.specs.Outcome.{Outcome, refused, page_outcome, main_text, status_of, OfOutcome, FromState}
use Rattle.texml_top.specs.Start.{IsFirst, Starts}
use Rattle.texml_top.specs.Run.{stopped, EndsAs, WroteFirst, MayEnd, FilesBlamed, SinkBlamed, LimitIs, FitsWords, TouchesNothing, WritesLate, EndsPage, WritesDocument, DocumentAsked, WritesPage, PageAsked, WholeLines, LinesBy, LinesAsked}
use Rattle.texml_tree.specs.declared.ops.Op.{Op}
use Rattle.texml_top.specs.declared.status.Status.{Status}
use Rattle.texml_top.specs.declared.status.Status.TheVariants as status
use Rattle.texml_top.proofs.Tables.{document_page, document_some}
use Rattle.texml_top.proofs.Outcomes.{outcome_by, is_by, expand_bytes, expand_records, is_from, of_any, from_any, of_fault, of_state}

-- nothing was written
pub none_written : (bytes : List ℕ) (ink : Ink) → WroteFirst bytes ink ink
none_written bytes ink = (0, sym (inked-nil ink))

pub refused_ends : (s : Status) (ink : Ink) → EndsAs s (refused s) ink ink
refused_ends s ink = (refl, sym (inked-nil ink))

pub no_lines : (all : Outcome) (ink : Ink) → WholeLines all ink ink
no_lines all ink = ([], all.records, refl, sym (inked-nil ink))

pub no_lines_by : (command : Command) (all : Outcome) (ink : Ink) → LinesBy command all ink ink
no_lines_by Convert all ink = tt
no_lines_by Expand all ink = no_lines all ink

-- what the end of a page says of the outcome
page_meets : (s : Status) (page : Result (List ℕ) ModelFault) (rows : List Record) (old new : Ink) → ((bytes : List ℕ) → page ≡ Ok bytes → bytes ≢ []) → EndsPage s page old new → MayEnd s (page_outcome page rows) old new
page_meets status.Done page rows old new some h = subst (λ p. EndsAs status.Done (page_outcome p rows) old new) (sym h.1) (refl, h.2)
page_meets (status.Usage k) page rows old new some h = absurd h
page_meets (status.Tex f) page rows old new some h = absurd h
page_meets (status.Model f) page rows old new some h = subst (λ p. EndsAs (status.Model f) (page_outcome p rows) old new) (sym h.0) (refl, h.1 ∙ sym (inked-nil old))
page_meets (status.Limit n) page rows old new some h = absurd h
page_meets status.ReadFault page rows old new some h = absurd h
page_meets status.WriteFault page rows old new some h = subst (λ p. MayEnd status.WriteFault (page_outcome p rows) old new) (sym h.1) (some h.0 h.1, h.2)
page_meets status.NoMemory page rows old new some h = (0, h ∙ sym (inked-nil old))

page_done : (s : Status) (page : Result (List ℕ) ModelFault) (rows : List Record) (old new : Ink) → EndsPage s page old new → WritesPage Convert s (page_outcome page rows)
page_done status.Done page rows old new h = tt
page_done (status.Usage k) page rows old new h = tt
page_done (status.Tex f) page rows old new h = tt
page_done (status.Model f) page rows old new h = tt
page_done (status.Limit n) page rows old new h = tt
page_done status.ReadFault page rows old new h = tt
page_done status.WriteFault page rows old new h = subst (λ p. (page_outcome p rows).status ≡ status.Done) (sym h.1) refl
page_done status.NoMemory page rows old new h = tt

-- what was written then is the page of a valid tree
pub page_document : (s : Status) (ops : List Op) (old new : Ink) → EndsPage s (document ops) old new → WritesDocument Convert s old new
page_document status.Done ops old new h = (h.0, document_page ops h.0 h.1, h.2)
page_document (status.Usage k) ops old new h = tt
page_document (status.Tex f) ops old new h = tt
page_document (status.Model f) ops old new h = tt
page_document (status.Limit n) ops old new h = tt
page_document status.ReadFault ops old new h = tt
page_document status.WriteFault ops old new h = (h.0, document_page ops h.0 h.1, h.2)
page_document status.NoMemory ops old new h = tt

pub page_late : (s : Status) (page : Result (List ℕ) ModelFault) (old new : Ink) → EndsPage s page old new → WritesLate Convert s old new
page_late status.Done page old new h = tt
page_late (status.Usage k) page old new h = absurd h
page_late (status.Tex f) page old new h = absurd h
page_late (status.Model f) page old new h = h.1
page_late (status.Limit n) page old new h = absurd h
page_late status.ReadFault page old new h = absurd h
page_late status.WriteFault page old new h = tt
page_late status.NoMemory page old new h = h

pub page_files : (s : Status) (page : Result (List ℕ) ModelFault) (old new : Ink) (m n : ℕ) → n ≡ m → EndsPage s page old new → FilesBlamed s m n
page_files status.Done page old new m n e h = e
page_files (status.Usage k) page old new m n e h = e
page_files (status.Tex f) page old new m n e h = e
page_files (status.Model f) page old new m n e h = e
page_files (status.Limit l) page old new m n e h = e
page_files status.ReadFault page old new m n e h = absurd h
page_files status.WriteFault page old new m n e h = e
page_files status.NoMemory page old new m n e h = e

pub page_limit : (s : Status) (page : Result (List ℕ) ModelFault) (old new : Ink) (limit : ℕ) → EndsPage s page old new → LimitIs limit s
page_limit status.Done page old new limit h = tt
page_limit (status.Usage k) page old new limit h = h
page_limit (status.Tex f) page old new limit h = tt
page_limit (status.Model f) page old new limit h = tt
page_limit (status.Limit m) page old new limit h = absurd h
page_limit status.ReadFault page old new limit h = tt
page_limit status.WriteFault page old new limit h = tt
page_limit status.NoMemory page old new limit h = tt

-- convert, by what digestion answers to whom nobody is told
module _ {T : Type 0} (hear part : T → Record → T → Type 0) where
  convert_done : (v : List Op) (s new : State) (a b : T) (Has : Outcome → Type 0) → Follows hear part (digests s) (Ok v) new a b
      → ((rows : List Record) → Has (page_outcome (document v) rows)) → FromState Convert s Has
  convert_done v s new a b Has g h =
      let all : Outcome = page_outcome (document v) g.meets.gains.records in
      record { all = all; is = is_from Convert s g.answer (Done v new g.meets.gains) all g.given g.meets.is refl; has = h g.meets.gains.records }

  pub convert_meets : (status : Status) (v : List Op) (s new : State) (a b : T) (ink more : Ink) → Follows hear part (digests s) (Ok v) new a b → EndsPage status (document v) ink more
      → FromState Convert s (λ all. MayEnd status all ink more)
  convert_meets status v s new a b ink more g h = convert_done v s new a b _ g (λ rows. page_meets status (document v) rows ink more (document_some v) h)

  pub convert_page : (status : Status) (v : List Op) (s new : State) (a b : T) (ink more : Ink) → Follows hear part (digests s) (Ok v) new a b → EndsPage status (document v) ink more
      → FromState Convert s (WritesPage Convert status)
  convert_page status v s new a b ink more g h = convert_done v s new a b _ g (λ rows. page_done status (document v) rows ink more h)

  convert_ends : (e : End) (s : State) (a b : T) (ink : Ink) (answer : Answer (List Op)) → DecidesOn (digests s) answer → MeetsEnd hear part answer e a b
      → FromState Convert s (λ all. EndsAs (status_of e) all ink ink)
  convert_ends e s a b ink answer g m =
      let all : Outcome = record { status = status_of e; bytes = []; records = m.gains.records } in
      record { all = all; is = is_from Convert s answer (Ended e m.gains) all g m.is refl; has = (refl, sym (inked-nil ink)) }

  -- nobody is told, so that telling can't fail
  pub convert_stops : (e : Stop) (s new : State) (a b : T) (ink : Ink) → TellsBecause {A = List Op} (Err e) 0 0 → Follows hear part (digests s) (Err e) new a b
      → FromState Convert s (λ all. MayEnd (stopped e) all ink ink)
  convert_stops (stop.Tex f) s new a b ink h g = convert_ends (Tex f) s a b ink g.answer g.given g.meets
  convert_stops (stop.Limit n) s new a b ink h g = convert_ends (Limit n) s a b ink g.answer g.given g.meets
  convert_stops stop.ReadFailed s new a b ink h g = from_any Convert s _ (λ all. none_written all.bytes ink)
  convert_stops stop.TellFailed s new a b ink h g = absurd (omega (arith, h))
  convert_stops stop.NoMemory s new a b ink h g = from_any Convert s _ (λ all. none_written all.bytes ink)

pub silent_page : (e : Stop) (all : Outcome) → TellsBecause {A = List Op} (Err e) 0 0 → WritesPage Convert (stopped e) all
silent_page (stop.Tex f) all h = tt
silent_page (stop.Limit n) all h = tt
silent_page stop.ReadFailed all h = tt
silent_page stop.TellFailed all h = absurd (omega (arith, h))
silent_page stop.NoMemory all h = tt

pub silent_document : (e : Stop) (old new : Ink) → TellsBecause {A = List Op} (Err e) 0 0 → WritesDocument Convert (stopped e) old new
silent_document (stop.Tex f) old new h = tt
silent_document (stop.Limit n) old new h = tt
silent_document stop.ReadFailed old new h = tt
silent_document stop.TellFailed old new h = absurd (omega (arith, h))
silent_document stop.NoMemory old new h = tt

-- a line has bytes
within_some : (xs : List ℕ) (c : ℕ) (rest : List ℕ) → xs ++ c ∷ rest ≢ []
within_some [] c rest = λ none. cc
within_some (x ∷ xs) c rest = λ none. cc

line_some : (news : Record) (rest : List ℕ) → trace_line news ++ rest ≢ []
line_some news rest = λ none. let front = news.token ++ codes " -> " ++ news.put in within_some front 10 rest (sym (append_assoc front (10 ∷ []) rest) ∙ none)

-- expand, by what digestion answers where its trace is written
module _ {T : Type 0} (lent : T → Lent) where
  abbrev Hears : T → Record → T → Type 0
  Hears a news b = Wrote (lent a) (trace_line news) (lent b)

  abbrev HearsPart : T → Record → T → Type 0
  HearsPart a news b = BrokeOff (lent a) (trace_line news) (lent b)

  pub expand_done : (v : List Op) (s new : State) (a b : T) → Follows Hears HearsPart (digests s) (Ok v) new a b → FromState Expand s (λ all. MayEnd status.Done all (lent a).ink (lent b).ink)
  expand_done v s new a b g =
      let all : Outcome = record { status = status.Done; bytes = trace g.meets.gains.records; records = g.meets.gains.records } in
      record { all = all; is = is_from Expand s g.answer (Done v new g.meets.gains) all g.given g.meets.is refl; has = (refl, (Wrote-trace lent a b g.meets.gains.records g.meets.heard).ink) }

  expand_ends : (e : End) (s : State) (a b : T) (answer : Answer (List Op)) → DecidesOn (digests s) answer → MeetsEnd Hears HearsPart answer e a b
      → FromState Expand s (λ all. EndsAs (status_of e) all (lent a).ink (lent b).ink)
  expand_ends e s a b answer g m =
      let all : Outcome = record { status = status_of e; bytes = trace m.gains.records; records = m.gains.records } in
      record { all = all; is = is_from Expand s answer (Ended e m.gains) all g m.is refl; has = (refl, (Wrote-trace lent a b m.gains.records m.heard).ink) }

  part_written : (rows more : List Record) (last : Option Record) (a b : T) → HeardLast Hears HearsPart rows last a b → WroteFirst (trace (rows ++ option_to_list last ++ more)) (lent a).ink (lent b).ink
  part_written rows more None a b h =
      subst (λ l. WroteFirst (trace (l ++ more)) (lent a).ink (lent b).ink) (sym (append-nil rows)) (Wrote-front (lent a) (lent b) rows more (Wrote-trace lent a b rows h))
  part_written rows more (Some last) a b h =
      subst (λ l. WroteFirst (trace l) (lent a).ink (lent b).ink) (sym (append_assoc rows (last ∷ []) more)) (WroteWithin-front (lent a) (lent b) rows last more (Wrote-within lent a h.0 b rows last h.1 h.2))

  part_whole : (rows : List Record) (last : Option Record) (a b : T) → HeardLast Hears HearsPart rows last a b → (Rose (lent a).faults (lent b).faults → ⊥) → (lent b).ink ≡ inked (lent a).ink (trace rows)
  part_whole rows None a b h calm = (Wrote-trace lent a b rows h).ink
  part_whole rows (Some last) a b h calm = (Wrote-within lent a h.0 b rows last h.1 h.2).whole calm

  -- records that were heard, and one in part
  first_part : (answer : Answer (List Op)) (a b : T) → MeetsFirst Hears HearsPart answer a b → MeetsPart Hears HearsPart answer a b
  first_part answer a b m = record { rows = m.rows; last = None; more = m.more; is = m.is ∙ ap (λ l. l ++ m.more) (sym (append-nil m.rows)); heard = m.heard }

  cut_part : (answer : Answer (List Op)) (a b : T) → MeetsCut Hears HearsPart answer a b → MeetsPart Hears HearsPart answer a b
  cut_part answer a b m = record { rows = m.rows; last = Some m.last; more = m.more; is = m.is ∙ sym (append_assoc m.rows (m.last ∷ []) m.more); heard = m.heard }

  -- a trace with a line has bytes
  trace_some : (rows more : List Record) (last : Record) → trace (rows ++ last ∷ more) ≢ []
  trace_some [] more last = line_some last (trace more)
  trace_some (row ∷ rows) more last = line_some row (trace (rows ++ last ∷ more))

  -- what holds of the trace holds of the outcome's bytes
  by_trace : (s : State) (answer : Answer (List Op)) (Has : List ℕ → Type 0) → DecidesOn (digests s) answer → Has (trace (added answer).records) → FromState Expand s (λ all. Has all.bytes)
  by_trace s answer Has g h =
      record {
        all = outcome_by Expand answer;
        is = is_from Expand s answer answer _ g refl (is_by Expand answer g.decided);
        has = subst Has (sym (expand_bytes answer g.decided)) h;
      }

  trace_part : (answer : Answer (List Op)) (a b : T) → MeetsPart Hears HearsPart answer a b → WroteFirst (trace (added answer).records) (lent a).ink (lent b).ink
  trace_part answer a b m = subst (λ l. WroteFirst (trace l) (lent a).ink (lent b).ink) (sym m.is) (part_written m.rows m.more m.last a b m.heard)

  -- the outcome, where its trace was written in part
  expand_part : (s : State) (a b : T) (answer : Answer (List Op)) → DecidesOn (digests s) answer → MeetsPart Hears HearsPart answer a b → FromState Expand s (λ all. WroteFirst all.bytes (lent a).ink (lent b).ink)
  expand_part s a b answer g m = by_trace s answer (λ bytes. WroteFirst bytes (lent a).ink (lent b).ink) g (trace_part answer a b m)

  -- the sink failed in a line
  expand_cut : (s : State) (a b : T) (answer : Answer (List Op)) → DecidesOn (digests s) answer → MeetsCut Hears HearsPart answer a b → FromState Expand s (λ all. MayEnd status.WriteFault all (lent a).ink (lent b).ink)
  expand_cut s a b answer g m =
      by_trace s answer (λ bytes. (bytes ≢ []) × WroteFirst bytes (lent a).ink (lent b).ink) g
      (λ none. trace_some m.rows m.more m.last (sym (ap trace m.is) ∙ none), trace_part answer a b (cut_part answer a b m))

  pub expand_stops : (e : Stop) (s new : State) (a b : T) → Follows Hears HearsPart (digests s) (Err e) new a b → FromState Expand s (λ all. MayEnd (stopped e) all (lent a).ink (lent b).ink)
  expand_stops (stop.Tex f) s new a b g = expand_ends (Tex f) s a b g.answer g.given g.meets
  expand_stops (stop.Limit n) s new a b g = expand_ends (Limit n) s a b g.answer g.given g.meets
  expand_stops stop.ReadFailed s new a b g = expand_part s a b g.answer g.given (first_part g.answer a b g.meets)
  expand_stops stop.TellFailed s new a b g = expand_cut s a b g.answer g.given g.meets
  expand_stops stop.NoMemory s new a b g = expand_part s a b g.answer g.given g.meets

  -- whole lines
  lines_all : (s : State) (answer : Answer (List Op)) (rows more : List Record) (a b : T) → DecidesOn (digests s) answer → (added answer).records ≡ rows ++ more
      → (lent b).ink ≡ inked (lent a).ink (trace rows) → FromState Expand s (λ all. WholeLines all (lent a).ink (lent b).ink)
  lines_all s answer rows more a b g e ink =
      record {
        all = outcome_by Expand answer;
        is = is_from Expand s answer answer _ g refl (is_by Expand answer g.decided);
        has = (rows, more, expand_records answer g.decided ∙ e, ink);
      }

  lines_part : (s : State) (a b : T) (answer : Answer (List Op)) → DecidesOn (digests s) answer → MeetsPart Hears HearsPart answer a b → (Rose (lent a).faults (lent b).faults → ⊥)
      → FromState Expand s (λ all. WholeLines all (lent a).ink (lent b).ink)
  lines_part s a b answer g m calm = lines_all s answer m.rows (option_to_list m.last ++ m.more) a b g (m.is ∙ append_assoc m.rows (option_to_list m.last) m.more) (part_whole m.rows m.last a b m.heard calm)

  no_more : (records rows : List Record) → records ≡ rows → records ≡ rows ++ []
  no_more records rows e = simp (e, append-nil)

  pub expand_lines : (r : Result (List Op) Stop) (s new : State) (a b : T) → Follows Hears HearsPart (digests s) r new a b → (Rose (lent a).faults (lent b).faults → ⊥)
      → FromState Expand s (λ all. WholeLines all (lent a).ink (lent b).ink)
  expand_lines (Ok v) s new a b g calm =
      lines_all s g.answer g.meets.gains.records [] a b g.given (no_more _ _ (ap (λ x. (added x).records) g.meets.is)) (Wrote-trace lent a b g.meets.gains.records g.meets.heard).ink
  expand_lines (Err (stop.Tex f)) s new a b g calm =
      lines_all s g.answer g.meets.gains.records [] a b g.given (no_more _ _ (ap (λ x. (added x).records) g.meets.is)) (Wrote-trace lent a b g.meets.gains.records g.meets.heard).ink
  expand_lines (Err (stop.Limit n)) s new a b g calm =
      lines_all s g.answer g.meets.gains.records [] a b g.given (no_more _ _ (ap (λ x. (added x).records) g.meets.is)) (Wrote-trace lent a b g.meets.gains.records g.meets.heard).ink
  expand_lines (Err stop.ReadFailed) s new a b g calm = lines_part s a b g.answer g.given (first_part g.answer a b g.meets) calm
  expand_lines (Err stop.TellFailed) s new a b g calm = lines_part s a b g.answer g.given (cut_part g.answer a b g.meets) calm
  expand_lines (Err stop.NoMemory) s new a b g calm = lines_part s a b g.answer g.given g.meets calm

-- the cause of a stop is one of the run
pub stop_files : (e : Stop) (m n : ℕ) → ReadsBecause {A = List Op} (Err e) m n → FilesBlamed (stopped e) m n
stop_files (stop.Tex f) m n h = h
stop_files (stop.Limit k) m n h = h
stop_files stop.ReadFailed m n h = h
stop_files stop.TellFailed m n h = h
stop_files stop.NoMemory m n h = h

pub stop_sink : (e : Stop) (m n : ℕ) → TellsBecause {A = List Op} (Err e) m n → SinkBlamed (stopped e) m n
stop_sink (stop.Tex f) m n h = h
stop_sink (stop.Limit k) m n h = h
stop_sink stop.ReadFailed m n h = h
stop_sink stop.TellFailed m n h = h
stop_sink stop.NoMemory m n h = h

-- nobody can fail to be told
pub silent_sink : (e : Stop) (n : ℕ) → TellsBecause {A = List Op} (Err e) 0 0 → SinkBlamed (stopped e) n n
silent_sink (stop.Tex f) n h = refl
silent_sink (stop.Limit k) n h = refl
silent_sink stop.ReadFailed n h = refl
silent_sink stop.TellFailed n h = absurd (omega (arith, h))
silent_sink stop.NoMemory n h = refl

-- the limit that is met is the engine's
pub stop_limit : (e : Stop) (h : Held) (limit : ℕ) → IsAtLimit {A = List Op} (Err e) h → h.limit ≡ limit → LimitIs limit (stopped e)
stop_limit (stop.Tex f) h limit l e = tt
stop_limit (stop.Limit n) h limit l e = l.1 ∙ e
stop_limit stop.ReadFailed h limit l e = tt
stop_limit stop.TellFailed h limit l e = tt
stop_limit stop.NoMemory h limit l e = tt

-- where nothing failed, a run that may end so ends with the outcome
pub ends_exactly : (s : Status) (all : Outcome) (old new : Ink) (m n j k : ℕ) → FilesBlamed s m n → SinkBlamed s j k → (Rose m n → ⊥) → (Rose j k → ⊥) → s ≢ status.NoMemory
    → MayEnd s all old new → EndsAs s all old new
ends_exactly status.Done all old new i n j k f o nf calm nm m = m
ends_exactly (status.Usage w) all old new i n j k f o nf calm nm m = m
ends_exactly (status.Tex e) all old new i n j k f o nf calm nm m = m
ends_exactly (status.Model e) all old new i n j k f o nf calm nm m = m
ends_exactly (status.Limit l) all old new i n j k f o nf calm nm m = m
ends_exactly status.ReadFault all old new i n j k f o nf calm nm m = absurd (nf f)
ends_exactly status.WriteFault all old new i n j k f o nf calm nm m = absurd (calm o)
ends_exactly status.NoMemory all old new i n j k f o nf calm nm m = absurd (nm refl)

-- by what the words ask for
pub usage_page : (r : Result Request ℕ) (which : ℕ) (s : Status) (all : Outcome) → r ≡ Err which → PageAsked r s all
usage_page r which s all e = subst (λ r. PageAsked r s all) (sym e) tt

pub usage_document : (r : Result Request ℕ) (which : ℕ) (s : Status) (old new : Ink) → r ≡ Err which → DocumentAsked r s old new
usage_document r which s old new e = subst (λ r. DocumentAsked r s old new) (sym e) tt

pub usage_lines : (r : Result Request ℕ) (which : ℕ) (all : Outcome) (old new : Ink) → r ≡ Err which → LinesAsked r all old new
usage_lines r which all old new e = subst (λ r. LinesAsked r all old new) (sym e) tt

pub asked_page : (r : Result Request ℕ) (request : Request) (s : Status) (all : Outcome) → r ≡ Ok request → WritesPage request.command s all → PageAsked r s all
asked_page r request s all e h = subst (λ r. PageAsked r s all) (sym e) h

pub asked_document : (r : Result Request ℕ) (request : Request) (s : Status) (old new : Ink) → r ≡ Ok request → WritesDocument request.command s old new → DocumentAsked r s old new
asked_document r request s old new e h = subst (λ r. DocumentAsked r s old new) (sym e) h

pub asked_lines : (r : Result Request ℕ) (request : Request) (all : Outcome) (old new : Ink) → r ≡ Ok request → LinesBy request.command all old new → LinesAsked r all old new
asked_lines r request all old new e h = subst (λ r. LinesAsked r all old new) (sym e) h

-- a run that doesn't start
module _ (words : List (List ℕ)) (shelf now : Shelf) (request : Request) (e : asked words ≡ Ok request) where
  pub start_meets : (s : Status) (ink : Ink) → Starts shelf now request.file request.limit (Err s) → IsTrue shelf.tells → OfOutcome words shelf.contents (λ all. MayEnd s all ink ink)
  start_meets status.Done ink h told = absurd h
  start_meets (status.Usage k) ink h told = absurd h
  start_meets (status.Tex f) ink h told = of_fault words shelf.contents request (status.Tex f) _ e (h told) (refused_ends (status.Tex f) ink)
  start_meets (status.Model f) ink h told = absurd h
  start_meets (status.Limit n) ink h told = absurd h
  start_meets status.ReadFault ink h told = of_any words shelf.contents _ (λ all. none_written all.bytes ink)
  start_meets status.WriteFault ink h told = absurd h
  start_meets status.NoMemory ink h told = of_any words shelf.contents _ (λ all. none_written all.bytes ink)

  pub start_page : (command : Command) (s : Status) (all : Outcome) → Starts shelf now request.file request.limit (Err s) → WritesPage command s all
  start_page Convert status.Done all h = tt
  start_page Convert (status.Usage k) all h = tt
  start_page Convert (status.Tex f) all h = tt
  start_page Convert (status.Model f) all h = tt
  start_page Convert (status.Limit n) all h = tt
  start_page Convert status.ReadFault all h = tt
  start_page Convert status.WriteFault all h = absurd h
  start_page Convert status.NoMemory all h = tt
  start_page Expand s all h = tt

pub start_document : (shelf now : Shelf) (name : List ℕ) (limit : ℕ) (command : Command) (s : Status) (ink : Ink) → Starts shelf now name limit (Err s) → WritesDocument command s ink ink
start_document shelf now name limit Convert status.Done ink h = absurd h
start_document shelf now name limit Convert (status.Usage k) ink h = tt
start_document shelf now name limit Convert (status.Tex f) ink h = tt
start_document shelf now name limit Convert (status.Model f) ink h = tt
start_document shelf now name limit Convert (status.Limit n) ink h = tt
start_document shelf now name limit Convert status.ReadFault ink h = tt
start_document shelf now name limit Convert status.WriteFault ink h = absurd h
start_document shelf now name limit Convert status.NoMemory ink h = tt
start_document shelf now name limit Expand s ink h = tt

pub start_sink : (shelf now : Shelf) (name : List ℕ) (limit : ℕ) (s : Status) (n : ℕ) → Starts shelf now name limit (Err s) → SinkBlamed s n n
start_sink shelf now name limit status.Done n h = refl
start_sink shelf now name limit (status.Usage k) n h = refl
start_sink shelf now name limit (status.Tex f) n h = refl
start_sink shelf now name limit (status.Model f) n h = refl
start_sink shelf now name limit (status.Limit m) n h = refl
start_sink shelf now name limit status.ReadFault n h = refl
start_sink shelf now name limit status.WriteFault n h = absurd h
start_sink shelf now name limit status.NoMemory n h = refl

pub start_limit : (shelf now : Shelf) (name : List ℕ) (limit more : ℕ) (s : Status) → Starts shelf now name limit (Err s) → LimitIs more s
start_limit shelf now name limit more status.Done h = tt
start_limit shelf now name limit more (status.Usage k) h = h
start_limit shelf now name limit more (status.Tex f) h = tt
start_limit shelf now name limit more (status.Model f) h = tt
start_limit shelf now name limit more (status.Limit m) h = absurd h
start_limit shelf now name limit more status.ReadFault h = tt
start_limit shelf now name limit more status.WriteFault h = tt
start_limit shelf now name limit more status.NoMemory h = tt

-- what the words say of a status
pub fits_ok : (r : Result Request ℕ) (request : Request) (s : Status) → r ≡ Ok request → LimitIs request.limit s → FitsWords r s
fits_ok r request s e h = subst (λ r. FitsWords r s) (sym e) h

pub fits_usage : (r : Result Request ℕ) (which : ℕ) → r ≡ Err which → FitsWords r (status.Usage which)
fits_usage r which e = subst (λ r. FitsWords r (status.Usage which)) (sym e) refl

pub untouched_ok : (r : Result Request ℕ) (request : Request) (shelf new : Shelf) (ink more : Ink) → r ≡ Ok request → TouchesNothing r shelf new ink more
untouched_ok r request shelf new ink more e = subst (λ r. TouchesNothing r shelf new ink more) (sym e) tt

-- a run that has started
pub started : (words : List (List ℕ)) (contents : List ℕ → Option (List ℕ)) (request : Request) (shelf : Shelf) (engine : Held) (Has : Outcome → Type 0) → asked words ≡ Ok request
    → IsFirst contents request.file request.limit (main_text contents request.file) shelf engine → FromState request.command (state_of shelf engine) Has → OfOutcome words contents Has
started words contents request shelf engine Has e first h = of_state words contents request first.0 (state_of shelf engine) Has e first.1 first.2 h
