-- A file is opened and its text put before what is to be read.
use Rattle.std.proofs.Common.{◌≡◌, ◌+◌, ◌-◌, ◌≤◌, ◌<◌, ℕ, Bool, true, false, IsTrue, nat_le, if◌then◌else◌, List, [], ◌∷◌, length, map, sum_by, Option, None, Some, Result, Ok, Err, refl, sym, ap, ◌∙◌, subst, arith}
use Rattle.std.specs.Option.{unwrap_or}
use Rattle.std.specs.Result.{OnOk}
use Rattle.std.proofs.lemmas.Bool.{eq-eqb, le-leb, lt-leb}
use Rattle.std.proofs.lemmas.List.Elements.{All-cons}
use Rattle.std.proofs.lemmas.List.Sums.{sum_by-cons}
use Rattle.texml_base.specs.Rising.{Rose}
use Rattle.texml_base.specs.Outside.{Shelf, IsOpened, IsClosed, without}
use Rattle.texml_token.specs.Token.{Token}
use Rattle.texml_token.specs.Numbers.{Table}
use Rattle.texml_token.proofs.Table.{extends_refl}
use Rattle.texml_token.specs.declared.fault_code.TheConstants.{DEPTH, MISSING_FILE}
use Rattle.texml_text.specs.File.{rows}
use Rattle.texml_watch.specs.declared.record.Record.{Record}
use Rattle.texml_input.specs.Rest.{Item, Text, items_at, fresh}
use Rattle.texml_input.specs.Held.{Source, Plain, Marked, File, Fence, fresh_file, rest_at, aside_of, ids_of, AreHeld, SourceWithin}
use Rattle.texml_input.specs.Searching.{names_tried, first_there}
use Rattle.texml_input.proofs.Standing.{held_opened, rest_opened, aside_opened}
use Rattle.texml_expand.specs.declared.engine.including.TheConstants.{MOST_FILES}
use Rattle.texml_expand.specs.declared.stop.Stop.{Stop}
use Rattle.texml_expand.specs.declared.stop.Stop.TheVariants as stop
use Rattle.texml_expand.specs.State.{State, Tex, nothing, opens, Ended, Reading, after, added, ◌>>=◌, tell, fault_at}
use Rattle.texml_expand.specs.Begin.{finish, finished, record_of}
use Rattle.texml_expand.specs.Include.{texts, open_texts, whole_text, found, opening}
use Rattle.texml_expand.specs.Contract.{Outside, outside, Stops, IsFaultAt}
use Rattle.texml_expand.specs.Hearing.{Meets}
use Rattle.texml_expand.specs.Held.{Held, place_of, state_of, Sound, Kept, Progress, IsAtLimit, Owns, Holding, SameFiles, Passes}
use Rattle.texml_expand.specs.Doing.{Tells}
use Rattle.texml_expand.proofs.Doing.{Did, did_by, did_fault, did_out}
use Rattle.texml_expand.proofs.Meeting.{meets_silent, meets_quiet, meets_after, part_untold}
use Rattle.texml_expand.proofs.Spending.{spent_still, spent_opened, spends_same}
use Rattle.texml_expand.proofs.Progress.{progress_then, progress_stopped}
use Rattle.texml_expand.proofs.Running.{holding_then, holding_same, files_stopped, runs_fault}
use Rattle.texml_expand.proofs.Taking.{silent_fault}

-- How many texts are open

-- each text that is still to be read is an open file
pub texts_held : (names : Table) (shelf : Shelf) (s : List Source) → texts (rest_at names shelf s) + sum_by texts (map (items_at names) (aside_of shelf s)) ≡ length (ids_of s)
texts_held names shelf [] = refl
texts_held names shelf (Plain t ∷ s) = texts_held names shelf s
texts_held names shelf (Marked t ∷ s) = texts_held names shelf s
texts_held names shelf (File f ∷ s) = let h = texts_held names shelf s in omega arith
texts_held names shelf (Fence ∷ s) = let e = sum_by-cons texts (rest_at names shelf s) (map (items_at names) (aside_of shelf s)) in let h = texts_held names shelf s in omega arith

-- What opening answers

module _ (name : List ℕ) (t : Token) where
  abbrev answer : Bool → Option (List ℕ) → Reading (Unit {0})
  answer b o = (λ s. if b then Ended (Tex (fault_at DEPTH [] s.place)) nothing else found name o s) >>= finish t

  pub opening_full : (s : State) → nat_le MOST_FILES (open_texts s) ≡ true → opening t name s ≡ Ended (Tex (fault_at DEPTH [] s.place)) nothing
  opening_full s full = ap (λ b. answer b (first_there s.contents (names_tried name)) s) full

  pub opening_missing : (s : State) → nat_le MOST_FILES (open_texts s) ≡ false → first_there s.contents (names_tried name) ≡ None → opening t name s ≡ Ended (Tex (fault_at MISSING_FILE name s.place)) nothing
  opening_missing s few none = ap (λ b. answer b (first_there s.contents (names_tried name)) s) few ∙ ap (λ o. answer false o s) none

  pub opening_found : (s : State) (there : List ℕ) → nat_le MOST_FILES (open_texts s) ≡ false → first_there s.contents (names_tried name) ≡ Some there
      → opening t name s ≡ after (opens there) (tell (record_of t [] there) (finished (Text (whole_text s.contents there) ∷ []) s))
  opening_found s there few is = ap (λ b. answer b (first_there s.contents (names_tried name)) s) few ∙ ap (λ o. answer false o s) is

-- so many are open, or fewer
pub too_many : (h : Held) (shelf : Shelf) (n : ℕ) → n ≡ length (ids_of h.input.sources) → MOST_FILES ≤ n → nat_le MOST_FILES (open_texts (state_of shelf h)) ≡ true
too_many h shelf n e le = let held = texts_held h.names shelf h.input.sources in le-leb MOST_FILES (open_texts (state_of shelf h)) (omega (arith, le, e, held))

pub one_more : (h : Held) (shelf : Shelf) (n : ℕ) → n ≡ length (ids_of h.input.sources) → n < MOST_FILES → nat_le MOST_FILES (open_texts (state_of shelf h)) ≡ false
one_more h shelf n e lt = let held = texts_held h.names shelf h.input.sources in lt-leb MOST_FILES (open_texts (state_of shelf h)) (omega (arith, lt, e, held))

-- The state behind

module _ (before now : Shelf) (h : Held) (there : List ℕ) (id : ℕ) (owns : Owns before h) (o : IsOpened before now there id) where
  abbrev sources : List Source
  sources = File (fresh_file id there) ∷ h.input.sources

  -- the text is in front, and the expansion is over
  abbrev pub with_text : Held
  with_text = record h { input = record h.input { sources = sources }; nesting = h.nesting - 1 }

  text_in_front : IsTrue before.tells → rest_at h.names now sources ≡ Text (whole_text before.contents there) ∷ rest_at h.names before h.input.sources
  text_in_front told =
      rest_opened before now there id h.input.sources owns.held o h.names there (now.left id) told (o.left told)
      ∙ ap (λ c. Text (fresh there (rows (unwrap_or c []))) ∷ rest_at h.names before h.input.sources) (sym (o.left told))

  pub state_opened : IsTrue before.tells → state_of now with_text ≡ finished (Text (whole_text before.contents there) ∷ []) (state_of before h)
  state_opened told =
      let P : List (Item Token) → List (List (Item Token)) → (List ℕ → Option (List ℕ)) → State = λ r l c. record (state_of before h) { rest = r; aside = l; contents = c; nesting = h.nesting - 1 } in
      let rest = Text (whole_text before.contents there) ∷ rest_at h.names before h.input.sources in
      ap (λ r. P r (map (items_at h.names) (aside_of now sources)) now.contents) (text_in_front told)
      ∙ ap (λ l. P rest (map (items_at h.names) l) now.contents) (aside_opened before now there id h.input.sources owns.held o there)
      ∙ ap (λ c. P rest (map (items_at h.names) (aside_of before h.input.sources)) c) o.contents

  holding_opened : Holding before now h with_text
  holding_opened = record {
    owns = record { held = held_opened before now there id h.input.sources owns.held o; all = o.ids ∙ ap (λ l. id ∷ l) owns.all };
    tells = o.tells;
    contents = o.contents;
  }

  kept_opened : Sound h → Kept h with_text
  kept_opened s = record {
    grows = extends_refl h.names;
    sound = record {
      numbered = s.numbered;
      sources = All-cons (SourceWithin (length h.names)) (File (fresh_file id there)) h.input.sources tt s.sources;
      ready = s.ready;
      kept = s.kept;
      scope = s.scope;
      budget = s.budget;
    };
  }

  progress_opened : Progress h with_text
  progress_opened = record { names = extends_refl h.names; begun = omega arith; within = λ b. b; limit = refl; writes = omega arith }

  pub passes_opened : {A : Type 0} (r : Result A Stop) (new : Held) → OnOk r (new ≡ with_text) → OnOk r (Passes 1 h new)
  passes_opened (Ok v) new e = subst (Passes 1 h) (sym e) (record { limit = refl; nesting = refl; begun = omega arith; within = λ lt. absurd (omega (arith, lt)) })
  passes_opened (Err x) new e = tt

  keeps_opened : {A : Type 0} (r : Result A Stop) (new : Held) → Sound h → OnOk r (new ≡ with_text) → OnOk r (Kept h new)
  keeps_opened (Ok v) new s e = subst (Kept h) (sym e) (kept_opened s)
  keeps_opened (Err x) new s e = tt

-- What the call does

module _ {T : Type 0} (hear part : T → Record → T → Type 0) (name : List ℕ) (t : Token) where
  abbrev Opening : Result (Unit {0}) Stop → Held → Held → Outside → Outside → T → T → Type 0
  Opening r old new f g a b = Tells hear part (opening t name) r old new f g a b

  tells_of : (r : Result (Unit {0}) Stop) (old new : Held) (f g : Outside) (a b : T) → Did hear part (opening t name (state_of f.shelf old)) r old new f g a b → Opening r old new f g a b
  tells_of r old new f g a b d = record { meets = d.meets; spends = d.spends; stops = d.stops; limit = d.limit; keeps = d.keeps; progress = d.progress; holds = d.holds }

  -- too many are open
  pub tells_full : (e : Stop) (h new : Held) (f : Outside) (a : T) → nat_le MOST_FILES (open_texts (state_of f.shelf h)) ≡ true → IsFaultAt DEPTH [] (place_of h) e → new ≡ record h { stop = Some e } → Owns f.shelf h → Opening (Err e) h new f f a a
  tells_full e h new f a full fault is owns =
      tells_of (Err e) h new f f a a (did_fault hear part (opening t name (state_of f.shelf h)) DEPTH [] e h new f a (opening_full name t (state_of f.shelf h) full) fault is owns)

  module _ (h new : Held) (before now : Shelf) (reads reads' tells loan : ℕ) (a : T) (owns : Owns before h) (same : now ≡ before) where
    abbrev f : Outside
    f = outside before reads tells loan

    abbrev As : Shelf → ℕ → Result (Unit {0}) Stop → Type 0
    As shelf n r = Opening r h new f (outside shelf n tells loan) a a

    -- nothing was opened
    unopened : (r : Result (Unit {0}) Stop) → reads' ≡ reads → As before reads r → As now reads' r
    unopened r count d = subst (λ shelf. As shelf reads' r) (sym same) (subst (λ n. As before n r) (sym count) d)

    -- there is no such file
    pub tells_missing : (e : Stop) → reads' ≡ reads → nat_le MOST_FILES (open_texts (state_of before h)) ≡ false → (IsTrue before.tells → first_there before.contents (names_tried name) ≡ None) → IsFaultAt MISSING_FILE name (place_of h) e
        → new ≡ record h { stop = Some e } → As now reads' (Err e)
    tells_missing e count few none fault is =
        unopened (Err e) count
        (tells_of (Err e) h new f f a a
        (did_by hear part (opening t name (state_of before h)) (Err e) h new f f a a
        (λ told.
        meets_silent hear part (opening t name (state_of before h)) (Err e) (state_of before new) a
        (silent_fault (opening t name (state_of before h)) MISSING_FILE name (place_of h) e (state_of before new) (opening_missing name t (state_of before h) few (none told)) fault))
        (spends_same (opening t name (state_of before h)) (Err e) before h new (files_stopped h new e is))
        (runs_fault MISSING_FILE name e h new f fault is owns)))

    -- files failed
    pub tells_unread : Rose reads reads' → new ≡ record h { stop = Some stop.ReadFailed } → As now reads' (Err stop.ReadFailed)
    tells_unread rose is =
        subst (λ shelf. As shelf reads' (Err stop.ReadFailed)) (sym same)
        (tells_of (Err stop.ReadFailed) h new f (outside before reads' tells loan) a a
        (did_by hear part (opening t name (state_of before h)) (Err stop.ReadFailed) h new f (outside before reads' tells loan) a a
        (λ told. meets_quiet hear part (opening t name (state_of before h)) (Err stop.ReadFailed) (state_of before new) a tt)
        (spends_same (opening t name (state_of before h)) (Err stop.ReadFailed) before h new (files_stopped h new stop.ReadFailed is))
        (record {
          stops = record { kept = ap (λ (h : Held). h.stop) is; reads = rose; tells = refl; loan = refl };
          limit = tt;
          keeps = tt;
          progress = progress_stopped h new stop.ReadFailed is;
          holds = holding_same before h new owns (files_stopped h new stop.ReadFailed is);
        })))

    -- memory was refused
    pub tells_short : (e : Stop) → reads' ≡ reads → e ≡ stop.NoMemory → new ≡ record h { stop = Some stop.NoMemory } → As now reads' (Err e)
    tells_short e count short is = unopened (Err e) count (tells_of (Err e) h new f f a a (did_out hear part (opening t name (state_of before h)) e h new f a short is owns))

  -- a file was opened, and closed again
  module _ (before mid now : Shelf) (there : List ℕ) (id : ℕ) (o : IsOpened before mid there id) (c : IsClosed mid now id) where
    ids_closed : now.ids ≡ before.ids
    ids_closed = c.ids ∙ ap (without id) o.ids ∙ rw (eq-eqb id id refl) refl

    holding_closed : (h new : Held) → Owns before h → SameFiles h new → Holding before now h new
    holding_closed h new owns same = record {
      owns = record { held = subst (λ l. AreHeld l (ids_of new.input.sources)) (sym ids_closed) (subst (AreHeld before.ids) (sym same.ids) owns.held); all = ids_closed ∙ owns.all ∙ sym same.ids };
      tells = c.tells ∙ o.tells;
      contents = c.contents ∙ o.contents;
    }

    pub tells_refused : (e : Stop) (h new : Held) (reads reads' tells loan : ℕ) (a : T) → Owns before h → reads' ≡ reads → e ≡ stop.NoMemory → new ≡ record h { stop = Some stop.NoMemory }
        → Opening (Err e) h new (outside before reads tells loan) (outside now reads' tells loan) a a
    tells_refused e h new reads reads' tells loan a owns count short is =
        let f = outside before reads tells loan in
        let g = outside now reads' tells loan in
        subst (λ (s : Stop). Opening (Err s) h new f g a a) (sym short)
        (tells_of (Err stop.NoMemory) h new f g a a
        (did_by hear part (opening t name (state_of before h)) (Err stop.NoMemory) h new f g a a (λ told. part_untold hear part (opening t name (state_of before h)) a)
        (λ told little. spent_still (Err stop.NoMemory) before now h.input.sources new.input.sources (added (opening t name (state_of before h))) (c.total ∙ o.total) (files_stopped h new stop.NoMemory is).readers little)
        (record {
          stops = record { kept = ap (λ (h : Held). h.stop) is; reads = count; tells = refl; loan = refl };
          limit = tt;
          keeps = tt;
          progress = progress_stopped h new stop.NoMemory is;
          holds = holding_closed h new owns (files_stopped h new stop.NoMemory is);
        })))

  -- the text was put in front, and it was told
  module _ (before now : Shelf) (h : Held) (there : List ℕ) (id : ℕ) (owns : Owns before h) (o : IsOpened before now there id) where
    abbrev mid : Held
    mid = with_text before now h there id owns o

    stops_told : (r : Result (Unit {0}) Stop) (reads reads' tells tells' loan loan' : ℕ) (k : Option Stop) → reads' ≡ reads → Stops r (outside now reads tells loan) (outside now reads tells' loan') k
        → Stops r (outside before reads tells loan) (outside now reads' tells' loan') k
    stops_told r reads reads' tells tells' loan loan' k count s =
        let s' = subst (λ n. Stops r (outside now reads tells loan) (outside now n tells' loan') k) (sym count) s in record { kept = s'.kept; reads = s'.reads; tells = s'.tells; loan = s'.loan }

    pub tells_opened : (r : Result (Unit {0}) Stop) (new : Held) (reads reads' tells tells' loan loan' : ℕ) (a b : T) → nat_le MOST_FILES (open_texts (state_of before h)) ≡ false
        → (IsTrue before.tells → first_there before.contents (names_tried name) ≡ Some there) → Sound h → reads' ≡ reads
        → ((shelf : Shelf) → Meets hear part (tell (record_of t [] there) (state_of shelf mid)) r (state_of shelf new) a b)
        → ((shelf : Shelf) (faults : ℕ) → Stops r (outside shelf faults tells loan) (outside shelf faults tells' loan') new.stop) → OnOk r (new ≡ mid) → Progress mid new → IsAtLimit r new → SameFiles mid new
        → Opening r h new (outside before reads tells loan) (outside now reads' tells' loan') a b
    tells_opened r new reads reads' tells tells' loan loan' a b few is sound count told stops same progress limit files =
        let f = outside before reads tells loan in
        let g = outside now reads' tells' loan' in
        let answers : IsTrue before.tells → opening t name (state_of before h) ≡ after (opens there) (tell (record_of t [] there) (state_of now mid)) = λ shown.
        opening_found name t (state_of before h) there few (is shown) ∙ ap (λ s. after (opens there) (tell (record_of t [] there) s)) (sym (state_opened before now h there id owns o shown)) in
        tells_of r h new f g a b
        (did_by hear part (opening t name (state_of before h)) r h new f g a b
        (λ shown.
        subst (λ x. Meets hear part x r (state_of now new) a b) (sym (answers shown)) (meets_after hear part (opens there) (tell (record_of t [] there) (state_of now mid)) r (state_of now new) a a b refl (told now)))
        (λ shown little.
        spent_opened r before now h.input.sources new.input.sources (added (opening t name (state_of before h))) id o.total files.readers little (omega (arith, ap (λ x. length (added x).opened) (answers shown))))
        (record {
          stops = stops_told r reads reads' tells tells' loan loan' new.stop count (stops now reads);
          limit = limit;
          keeps = keeps_opened before now h there id owns o r new sound same;
          progress = progress_then h mid new (progress_opened before now h there id owns o) progress;
          holds = holding_then before now now h mid new (holding_opened before now h there id owns o) (holding_same now mid new (holding_opened before now h there id owns o).owns files);
        }))
