-- What an engine is behind a call of its input.
use Rattle.std.proofs.Common.{◌≡◌, ◌&&◌, ℕ, zero, suc, Bool, true, false, if◌then◌else◌, IsTrue, List, [], length, Option, None, Some, IfSome, Result, Ok, Err, refl, sym, ap, ◌∙◌, subst, arith}
use Rattle.std.specs.Option.{option_map}
use Rattle.texml_base.specs.Rising.{Rose}
use Rattle.texml_base.specs.Outside.{Shelf}
use Rattle.texml_token.specs.Numbers.{Table, Extends, Numbered}
use Rattle.texml_token.specs.declared.fault_code.TheConstants.{FILE_ENDED, INVALID_CHAR, NOT_UTF8}
use Rattle.texml_scope.specs.Shown.{world_of}
use Rattle.texml_input.specs.Next.{Taken, Given, bytes_of, next}
use Rattle.texml_input.specs.Codes.{cats_of, end_of}
use Rattle.texml_input.specs.Held.{Held as HeldInput, rest_at, aside_of, SourcesWithin, AreLittle, front_size}
use Rattle.texml_input.specs.Keeping.{Holds}
use Rattle.texml_input.specs.Answers.{given_at, IsNext, Loads, LittleAfter, broken_size}
use Rattle.texml_input.specs.declared.fault.Read.{Read}
use Rattle.texml_input.specs.declared.fault.InputFault.{InputFault}
use Rattle.texml_input.specs.declared.fault.InputFault.TheVariants as fault
use Rattle.texml_expand.specs.declared.stop.Stop.{Stop}
use Rattle.texml_expand.specs.declared.stop.Stop.TheVariants as stop
use Rattle.texml_expand.specs.State.{Done, some_bytes, loads, bytes_in, added}
use Rattle.texml_expand.specs.Expand.{take}
use Rattle.texml_expand.specs.Contract.{IsFaultAt, ReadsBecause, TellsBecause, files_at}
use Rattle.texml_expand.specs.Held.{Held, place_of, state_of, Sound, Progress, IsAtLimit, Owns, Holding, read_at}
use Rattle.texml_expand.specs.Doing.{Gets, Runs}
use Rattle.texml_expand.specs.Spending.{MayBreak, AreLittleIf, Spent, Spends}
use Rattle.texml_expand.proofs.Catcodes.{cats_same, end_same}
use Rattle.texml_expand.proofs.Taking.{take_ok, take_broken, take_invalid, take_not_utf8, next_by, given_ok, given_added, placed_bytes, quiet_fault}
use Rattle.texml_expand.proofs.Placing.{next_placed}
use Rattle.texml_expand.proofs.Spending.{not_broken}
use Rattle.texml_expand.proofs.Fronts.{taken_kept, taken_state}
use Rattle.texml_expand.proofs.Progress.{progress_then, progress_stopped}
use Rattle.texml_expand.proofs.Running.{holding_then, holding_same, files_stopped}
use Rattle.texml_expand.proofs.Getting.{gets_by}

module _ (h : Held) (names : Table) (input : HeldInput) (a b : Shelf) (reads reads' : ℕ) (owns : Owns a h) (sound : Sound h) (holds : Holds a b h.input.sources input.sources)
    (grows : Extends h.names names) where
  abbrev mid : Held
  mid = record h { names = names; input = input }

  mid_holds : Holding a b h mid
  mid_holds = record { owns = record { held = holds.held; all = holds.exact owns.all }; tells = holds.tells; contents = holds.contents }

  -- what the rest gives
  abbrev all : Given
  all = next (cats_of (world_of h.scope)) (end_of (world_of h.scope)) (rest_at h.names a h.input.sources) h.input.place

  one_size : (n : ℕ) → bytes_in (loads (some_bytes n)) ≡ n
  one_size zero = refl
  one_size (suc n) = omega arith

  -- taking a token loads what the rest loads for it
  take_bytes : bytes_in (added (take (state_of a h))) ≡ bytes_of all
  take_bytes =
      let s = state_of a h in
      ap bytes_in (given_added (next (cats_of s.world) (end_of s.world) s.rest s.place) s) ∙ one_size (bytes_of (next (cats_of s.world) (end_of s.world) s.rest s.place))
      ∙ ap bytes_of (next_placed h.main (cats_of s.world) (end_of s.world) s.rest h.input.place) ∙ placed_bytes h.main (next (cats_of s.world) (end_of s.world) s.rest h.input.place)
      ∙ ap (λ c. bytes_of (next c (end_of s.world) s.rest h.input.place)) (cats_same h.names (world_of h.scope))
      ∙ ap (λ e. bytes_of (next (cats_of (world_of h.scope)) e s.rest h.input.place)) (end_same h.names (world_of h.scope))

  -- what the files gave
  abbrev LoadsTold : Result (Option Read) InputFault → Type 0
  LoadsTold r = IsTrue a.tells → AreLittle h.input.sources → Loads a b h.input.sources input.sources all r

  abbrev LittleBehind : Result (Option Read) InputFault → Type 0
  LittleBehind r = AreLittle h.input.sources → LittleAfter r input.sources

  next_spends : {A : Type 0} (r : Result (Option Read) InputFault) (breaks : Bool) (e : Result A Stop) (new : Held) → new.input ≡ input → MayBreak e breaks → (LittleAfter r input.sources → AreLittleIf breaks input.sources)
      → broken_size r b input.sources ≡ (if breaks then front_size b input.sources else 0) → LoadsTold r → LittleBehind r → Spends (take (state_of a h)) e a b h new
  next_spends r breaks e new same may few size loaded little told small =
      let l = loaded told small in
      subst (λ (i : HeldInput). Spent e a b h.input.sources i.sources (added (take (state_of a h)))) (sym same) (record {
        loaded = l.loaded;
        opened = 0;
        breaks = breaks;
        may = may;
        within = omega (arith, l.within, size, take_bytes);
        files = omega arith;
        given = l.spends.given;
        total = l.spends.total;
        balance = omega (arith, l.spends.balance);
        little = few (little small);
      })

  mid_progress : Progress h mid
  mid_progress = record { names = grows; begun = omega arith; within = λ b. b; limit = refl; writes = omega arith }

  -- it stops there
  stopped : {A : Type 0} (e : Stop) (new : Held) → new ≡ record mid { stop = Some e } → ReadsBecause {A = A} (Err e) reads reads' → TellsBecause {A = A} (Err e) 0 0 → IsAtLimit {A = A} (Err e) new
      → Runs {A = A} (Err e) h new (files_at a reads) (files_at b reads')
  stopped e new is because told limit = record {
    stops = record { kept = ap (λ (h : Held). h.stop) is; reads = because; tells = told; loan = refl };
    limit = limit;
    keeps = tt;
    progress = progress_then h mid new mid_progress (progress_stopped mid new e is);
    holds = holding_then a b b h mid new mid_holds (holding_same b mid new mid_holds.owns (files_stopped mid new e is));
  }

  pub out_gets : (e : Stop) (new : Held) → e ≡ stop.NoMemory → new ≡ record mid { stop = Some stop.NoMemory } → reads' ≡ reads → LoadsTold (Err fault.NoMemory) → LittleBehind (Err fault.NoMemory) → Gets take (Err e) h new (files_at a reads) (files_at b reads')
  out_gets e new short is same loaded little =
      subst (λ (s : Stop). Gets take (Err s) h new (files_at a reads) (files_at b reads')) (sym short)
      (gets_by take (Err stop.NoMemory) h new (files_at a reads) (files_at b reads') (λ told. tt)
      (next_spends (Err fault.NoMemory) true (Err stop.NoMemory) new (ap (λ (h : Held). h.input) is) tt (λ l. l) refl loaded little) (stopped stop.NoMemory new is same refl tt))

  pub failed_gets : (new : Held) → new ≡ record mid { stop = Some stop.ReadFailed } → Rose reads reads' → LoadsTold (Err fault.Failed) → LittleBehind (Err fault.Failed) → Gets take (Err stop.ReadFailed) h new (files_at a reads) (files_at b reads')
  failed_gets new is rose loaded little =
      gets_by take (Err stop.ReadFailed) h new (files_at a reads) (files_at b reads') (λ told. tt)
      (next_spends (Err fault.Failed) true (Err stop.ReadFailed) new (ap (λ (h : Held). h.input) is) tt (λ l. l) refl loaded little) (stopped stop.ReadFailed new is rose refl tt)

  fault_runs : {A : Type 0} (code : ℕ) (about : List ℕ) (e : Stop) (new : Held) → IsFaultAt code about (place_of mid) e → new ≡ record mid { stop = Some e } → reads' ≡ reads → Runs {A = A} (Err e) h new (files_at a reads) (files_at b reads')
  fault_runs code about (stop.Tex f) new fault is same = stopped (stop.Tex f) new is same refl tt
  fault_runs code about (stop.Limit n) new fault is same = absurd fault
  fault_runs code about stop.ReadFailed new fault is same = absurd fault
  fault_runs code about stop.TellFailed new fault is same = absurd fault
  fault_runs code about stop.NoMemory new fault is same = stopped stop.NoMemory new is same refl tt

  abbrev Next : Result (Option Read) InputFault → Type 0
  Next r = IsTrue a.tells → IsNext (next (cats_of (world_of h.scope)) (end_of (world_of h.scope)) (rest_at h.names a h.input.sources) h.input.place) (given_at names r) (rest_at names b input.sources) input.place

  next_in : (r : Result (Option Read) InputFault) → Next r → IsTrue a.tells
      → IsNext (next (cats_of (state_of a h).world) (end_of (state_of a h).world) (state_of a h).rest h.input.place) (given_at names r) (rest_at names b input.sources) input.place
  next_in r n told =
      next_by (state_of a h) h.input.place (cats_of (world_of h.scope)) (end_of (world_of h.scope)) (given_at names r) (rest_at names b input.sources) input.place (cats_same h.names (world_of h.scope)) (end_same h.names (world_of h.scope)) (n told)

  pub invalid_gets : (c : ℕ) (e : Stop) (new : Held) → Next (Err (fault.Invalid c)) → IsFaultAt INVALID_CHAR [] (place_of mid) e → new ≡ record mid { stop = Some e } → reads' ≡ reads
      → LoadsTold (Err (fault.Invalid c)) → LittleBehind (Err (fault.Invalid c)) → Gets take (Err e) h new (files_at a reads) (files_at b reads')
  invalid_gets c e new n bad is same loaded little =
      gets_by take (Err e) h new (files_at a reads) (files_at b reads')
      (λ told. quiet_fault (take (state_of a h)) INVALID_CHAR [] (place_of mid) e (state_of b new) (take_invalid (state_of a h) h.main h.input.place refl c (rest_at names b input.sources) input.place (next_in (Err (fault.Invalid c)) n told)) bad)
      (next_spends (Err (fault.Invalid c)) false (Err e) new (ap (λ (h : Held). h.input) is) (not_broken {A = Option Taken} (Err e)) (λ l. l) refl loaded little)
      (fault_runs INVALID_CHAR [] e new bad is same)

  pub not_utf8_gets : (e : Stop) (new : Held) → Next (Err fault.NotUtf8) → IsFaultAt NOT_UTF8 [] (place_of mid) e → new ≡ record mid { stop = Some e } → reads' ≡ reads
      → LoadsTold (Err fault.NotUtf8) → LittleBehind (Err fault.NotUtf8) → Gets take (Err e) h new (files_at a reads) (files_at b reads')
  not_utf8_gets e new n bad is same loaded little =
      gets_by take (Err e) h new (files_at a reads) (files_at b reads')
      (λ told. quiet_fault (take (state_of a h)) NOT_UTF8 [] (place_of mid) e (state_of b new) (take_not_utf8 (state_of a h) h.main h.input.place refl (rest_at names b input.sources) input.place (next_in (Err fault.NotUtf8) n told)) bad)
      (next_spends (Err fault.NotUtf8) false (Err e) new (ap (λ (h : Held). h.input) is) (not_broken {A = Option Taken} (Err e)) (λ l. l) refl loaded little)
      (fault_runs NOT_UTF8 [] e new bad is same)

  -- a file has ended before a token, and may not end there
  pub broken_gets : (r : Read) (e : Stop) (new : Held) → Next (Ok (Some r)) → (h.absorbing && r.crossed) ≡ true → IsFaultAt FILE_ENDED [] (place_of mid) e → new ≡ record mid { stop = Some e } → reads' ≡ reads
      → LoadsTold (Ok (Some r)) → LittleBehind (Ok (Some r)) → Gets take (Err e) h new (files_at a reads) (files_at b reads')
  broken_gets r e new n broken bad is same loaded little =
      gets_by take (Err e) h new (files_at a reads) (files_at b reads')
      (λ told. quiet_fault (take (state_of a h)) FILE_ENDED [] (place_of mid) e (state_of b new) (take_broken (state_of a h) h.main h.input.place refl (rest_at names b input.sources) input.place (read_at names r) (next_in (Ok (Some r)) n told) broken) bad)
      (next_spends (Ok (Some r)) false (Err e) new (ap (λ (h : Held). h.input) is) (not_broken {A = Option Taken} (Err e)) (λ l. l) refl loaded little)
      (fault_runs FILE_ENDED [] e new bad is same)

  -- the same of what it stands for
  whole_at : (o : Option Read) → IfSome o (λ r. (h.absorbing && r.crossed) ≡ false) → IfSome (option_map (read_at names) o) (λ t. (h.absorbing && t.crossed) ≡ false)
  whole_at None w = tt
  whole_at (Some r) w = w

  -- a token was taken, or nothing is left
  pub took_gets : (o : Option Read) → IfSome o (λ r. (h.absorbing && r.crossed) ≡ false) → Next (Ok o) → (IsTrue a.tells → aside_of b input.sources ≡ aside_of a h.input.sources) → Numbered names → SourcesWithin (length names) input.sources → input.fault ≡ None → h.stop ≡ None → reads' ≡ reads
      → LoadsTold (Ok o) → LittleBehind (Ok o) → Gets take (Ok (option_map (read_at names) o)) h mid (files_at a reads) (files_at b reads')
  took_gets o whole n aside numbered within ready running same loaded little =
      gets_by take (Ok (option_map (read_at names) o)) h mid (files_at a reads) (files_at b reads')
      (λ told.
      let m = subst (λ r. IsNext (next (cats_of (state_of a h).world) (end_of (state_of a h).world) (state_of a h).rest h.input.place) r (rest_at names b input.sources) input.place) (given_ok names o) (next_in (Ok o) n told) in
      let t = take_ok (state_of a h) h.main h.input.place refl (rest_at names b input.sources) input.place (option_map (read_at names) o) m (whole_at o whole) in
      (t.0, t.1 ∙ ap (λ s. Done (option_map (read_at names) o) s (loads t.0)) (taken_state h names input a b sound grows (aside told) holds.contents)))
      (next_spends (Ok o) false (Ok (option_map (read_at names) o)) mid refl refl (λ l. l) refl loaded little)
      (record {
        stops = record { kept = running; reads = same; tells = refl; loan = refl };
        limit = tt;
        keeps = taken_kept h names input sound grows numbered within ready;
        progress = mid_progress;
        holds = mid_holds;
      })
