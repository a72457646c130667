-- Chains of records that were heard.
use Rattle.std.proofs.Common.{◌≡◌, List, [], ◌∷◌, ◌++◌, ℕ, take, refl, ap, sym, ◌∙◌, subst, arith, append-nil, append_assoc, length}
use Rattle.std.proofs.Math.Seq.{take-append_seam}
use Rattle.std.proofs.lemmas.Grind.{flat_map-append}
use Rattle.texml_base.specs.Outside.{inked}
use Rattle.texml_base.proofs.Taking.{inked-append, inked-nil, cut_later, cut_short}
use Rattle.texml_watch.specs.declared.record.Record.{Record}
use Rattle.texml_watch.specs.Trace.{trace, trace_line}
use Rattle.texml_watch.specs.Telling.{AllHeard}
use Rattle.texml_watch.specs.Writing.{Lent, Wrote, BrokeOff, WroteWithin}

-- one record
pub AllHeard-one : {T : Type 0} (heard : T → Record → T → Type 0) (old new : T) (news : Record) → heard old news new → AllHeard heard old (news ∷ []) new
AllHeard-one heard old new news h = (new, h, refl)

-- two lists, one after the other
pub AllHeard-append : {T : Type 0} (heard : T → Record → T → Type 0) (old mid new : T) (rows more : List Record)
    → AllHeard heard old rows mid → AllHeard heard mid more new → AllHeard heard old (rows ++ more) new
AllHeard-append {T = T} heard old mid new [] more first then = let P : T → Type 0 = λ t. AllHeard heard t more new in subst P first then
AllHeard-append heard old mid new (news ∷ rows) more first then =
    (first.0, first.1, AllHeard-append heard first.0 mid new rows more first.2 then)

-- one more record at the end
pub AllHeard-more : {T : Type 0} (heard : T → Record → T → Type 0) (old mid new : T) (rows : List Record) (news : Record)
    → AllHeard heard old rows mid → heard mid news new → AllHeard heard old (rows ++ news ∷ []) new
AllHeard-more heard old mid new rows news first then = AllHeard-append heard old mid new rows (news ∷ []) first (AllHeard-one heard mid new news then)

-- a chain of two lists has a middle
pub AllHeard-split : {T : Type 0} (heard : T → Record → T → Type 0) (old new : T) (rows more : List Record)
    → AllHeard heard old (rows ++ more) new → (mid : T) × AllHeard heard old rows mid × AllHeard heard mid more new
AllHeard-split heard old new [] more h = (old, refl, h)
AllHeard-split heard old new (news ∷ rows) more h =
    let r = AllHeard-split heard h.0 new rows more h.2 in (r.0, (h.0, h.1, r.1), r.2)

-- the trace of two lists
pub trace-append : (rows more : List Record) → trace (rows ++ more) ≡ trace rows ++ trace more
trace-append rows more = flat_map-append trace_line rows more

-- nothing was written
pub Wrote-nil : (old new : Lent) → new ≡ old → Wrote old [] new
Wrote-nil old new same = record {
  loan = ap (λ l. l.loan) same;
  ink = ap (λ l. l.ink) same ∙ sym (inked-nil old.ink);
  faults = ap (λ l. l.faults) same;
}

-- one piece after the other
pub Wrote-append : (old mid new : Lent) (a b : List ℕ) → Wrote old a mid → Wrote mid b new → Wrote old (a ++ b) new
Wrote-append old mid new a b first then = record {
  loan = then.loan ∙ first.loan;
  ink = then.ink ∙ ap (λ i. inked i b) first.ink ∙ inked-append old.ink a b;
  faults = then.faults ∙ first.faults;
}

-- a chain of trace lines has written the trace
pub Wrote-trace : {T : Type 0} (lent : T → Lent) (old new : T) (rows : List Record)
    → AllHeard (λ o news n. Wrote (lent o) (trace_line news) (lent n)) old rows new → Wrote (lent old) (trace rows) (lent new)
Wrote-trace lent old new [] h = Wrote-nil (lent old) (lent new) (ap lent h)
Wrote-trace lent old new (news ∷ rows) h =
    Wrote-append (lent old) (lent h.0) (lent new) (trace_line news) (trace rows) h.1 (Wrote-trace lent h.0 new rows h.2)

-- a line in part behind a chain of them has written a prefix of the trace with that line
pub Wrote-within : {T : Type 0} (lent : T → Lent) (old mid new : T) (rows : List Record) (news : Record)
    → AllHeard (λ o news n. Wrote (lent o) (trace_line news) (lent n)) old rows mid
    → BrokeOff (lent mid) (trace_line news) (lent new) → WroteWithin (lent old) rows news (lent new)
Wrote-within lent old mid new rows news heard part =
    let first = Wrote-trace lent old mid rows heard in
    let both = trace-append rows (news ∷ []) ∙ ap (λ l. trace rows ++ l) (append-nil (trace_line news)) in
    let cut = cut_later part.ink.0 (trace rows) (trace_line news) in record {
      loan = part.loan ∙ first.loan;
      ink = (
        cut.0,
        part.ink.1 ∙ ap (λ i. inked i (take part.ink.0 (trace_line news))) first.ink
            ∙ inked-append (lent old).ink (trace rows) (take part.ink.0 (trace_line news))
            ∙ ap (inked (lent old).ink) (cut.1 ∙ ap (take cut.0) (sym both)),
      );
      whole = λ calm. part.nothing (λ rose. calm (omega (arith, rose, first.faults))) ∙ first.ink;
      faults = omega (arith, first.faults, part.faults);
    }

-- both have written a prefix of the trace of more records
pub Wrote-front : (old new : Lent) (rows more : List Record) → Wrote old (trace rows) new
    → (n : ℕ) × (new.ink ≡ inked old.ink (take n (trace (rows ++ more))))
Wrote-front old new rows more wrote =
    let front = take-append_seam (trace rows) (trace more) in
    (length (trace rows), wrote.ink ∙ ap (inked old.ink) (sym (ap (take (length (trace rows))) (trace-append rows more) ∙ front)))

pub WroteWithin-front : (old new : Lent) (rows : List Record) (news : Record) (more : List Record) → WroteWithin old rows news new
    → (n : ℕ) × (new.ink ≡ inked old.ink (take n (trace (rows ++ news ∷ more))))
WroteWithin-front old new rows news more wrote =
    let cut = cut_short wrote.ink.0 (trace (rows ++ news ∷ [])) (trace more) in
    let both = sym (trace-append (rows ++ news ∷ []) more) ∙ ap trace (append_assoc rows (news ∷ []) more) in
    (cut.0, wrote.ink.1 ∙ ap (inked old.ink) (cut.1 ∙ ap (take cut.0) both))
