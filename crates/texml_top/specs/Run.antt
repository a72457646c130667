-- How a run may end.
use Rattle.std.specs.Prelude.{◌≡◌, ◌≢◌, ℕ, List, [], ◌++◌, take, Result, Ok, Err}
use Rattle.texml_base.specs.Outside.{Shelf, Ink, inked}
use Rattle.texml_base.specs.Rising.{Rose}
use Rattle.texml_base.specs.declared.files.Trouble.{Trouble}
use Rattle.texml_base.specs.declared.files.Trouble.TheVariants as trouble
use Rattle.texml_tree.specs.declared.model_fault.ModelFault.{ModelFault}
use Rattle.texml_watch.specs.declared.record.Record.{Record}
use Rattle.texml_watch.specs.Trace.{trace}
use Rattle.texml_expand.specs.declared.stop.Stop.{Stop}
use Rattle.texml_expand.specs.declared.stop.Stop.TheVariants as stop
use Rattle.texml_build.specs.declared.fault.BuildFault.{BuildFault}
use Rattle.texml_build.specs.declared.fault.BuildFault.TheVariants as build
use Rattle.texml_top.specs.Request.{Request}
use Rattle.texml_top.specs.declared.request.Command.{Command}
use Rattle.texml_top.specs.declared.request.Command.TheVariants.{Convert, Expand}
use Rattle.texml_top.specs.Document.{IsPage}
use Rattle.texml_top.specs.Outcome.{Outcome}
use Rattle.texml_top.specs.declared.status.Status.{Status}
use Rattle.texml_top.specs.declared.status.Status.TheVariants.{Done, Usage, Tex, Model, Limit, ReadFault, WriteFault, NoMemory}

-- the status of a run that an engine's stop ends
abbrev pub stopped : Stop → Status
stopped (stop.Tex f) = Tex f
stopped (stop.Limit n) = Limit n
stopped stop.ReadFailed = ReadFault
stopped stop.TellFailed = WriteFault
stopped stop.NoMemory = NoMemory

-- the status of a run whose files can't be read
abbrev pub unread : Trouble → Status
unread trouble.Failed = ReadFault
unread trouble.NoMemory = NoMemory

-- the status of a run whose document can't be built
abbrev pub unbuilt : BuildFault → Status
unbuilt (build.Model f) = Model f
unbuilt build.NoMemory = NoMemory

-- the status is the outcome's, and its bytes were written
abbrev pub EndsAs : Status → Outcome → Ink → Ink → Type 0
EndsAs s all old new = (s ≡ all.status) × (new ≡ inked old all.bytes)

-- a first part of the bytes was written
abbrev pub WroteFirst : List ℕ → Ink → Ink → Type 0
WroteFirst bytes old new = (n : ℕ) × (new ≡ inked old (take n bytes))

-- what a status says of the outcome, and of what was written; a write fails only where there is something to write
abbrev pub MayEnd : Status → Outcome → Ink → Ink → Type 0
MayEnd Done all old new = EndsAs Done all old new
MayEnd (Usage k) all old new = EndsAs (Usage k) all old new
MayEnd (Tex f) all old new = EndsAs (Tex f) all old new
MayEnd (Model f) all old new = EndsAs (Model f) all old new
MayEnd (Limit n) all old new = EndsAs (Limit n) all old new
MayEnd ReadFault all old new = WroteFirst all.bytes old new
MayEnd WriteFault all old new = (all.bytes ≢ []) × WroteFirst all.bytes old new
MayEnd NoMemory all old new = WroteFirst all.bytes old new

-- the files' count of faults rose where they are blamed, and is as before on every other status
abbrev pub FilesBlamed : Status → ℕ → ℕ → Type 0
FilesBlamed ReadFault old new = Rose old new
FilesBlamed _ old new = new ≡ old

-- so did the sink's
abbrev pub SinkBlamed : Status → ℕ → ℕ → Type 0
SinkBlamed WriteFault old new = Rose old new
SinkBlamed _ old new = new ≡ old

-- a status that the words don't give: no refusal of words, and no other limit than this
abbrev pub LimitIs : ℕ → Status → Type 0
LimitIs limit (Usage k) = ⊥
LimitIs limit (Limit n) = n ≡ limit
LimitIs limit _ = Unit {0}

-- what the words say of the status: words that are no command line are refused, and only they are; the limit is the one asked for
abbrev pub FitsWords : Result Request ℕ → Status → Type 0
FitsWords (Ok request) status = LimitIs request.limit status
FitsWords (Err which) status = status ≡ Usage which

-- words that are no command line are refused before anything is opened or written
abbrev pub TouchesNothing : Result Request ℕ → Shelf → Shelf → Ink → Ink → Type 0
TouchesNothing (Ok request) shelf new ink more = Unit {0}
TouchesNothing (Err which) shelf new ink more = (new ≡ shelf) × (more ≡ ink)

-- convert writes nothing but where it is done, or where the sink failed
abbrev pub WritesLate : Command → Status → Ink → Ink → Type 0
WritesLate Convert Done old new = Unit {0}
WritesLate Convert WriteFault old new = Unit {0}
WritesLate Convert _ old new = new ≡ old
WritesLate Expand _ old new = Unit {0}

abbrev pub LateAsked : Result Request ℕ → Status → Ink → Ink → Type 0
LateAsked (Ok request) status old new = WritesLate request.command status old new
LateAsked (Err which) status old new = new ≡ old

-- how the writing of a page may end: the page was written, a first part of it where the sink failed, and else nothing
abbrev pub EndsPage : Status → Result (List ℕ) ModelFault → Ink → Ink → Type 0
EndsPage Done page old new = (bytes : List ℕ) × (page ≡ Ok bytes) × (new ≡ inked old bytes)
EndsPage (Model f) page old new = (page ≡ Err f) × (new ≡ old)
EndsPage WriteFault page old new = (bytes : List ℕ) × (page ≡ Ok bytes) × WroteFirst bytes old new
EndsPage NoMemory page old new = new ≡ old
EndsPage _ page old new = ⊥

-- what convert wrote is the page of a valid tree whose references are linked, or a first part of it where the sink failed
abbrev pub WritesDocument : Command → Status → Ink → Ink → Type 0
WritesDocument Convert Done old new = (bytes : List ℕ) × IsPage bytes × (new ≡ inked old bytes)
WritesDocument Convert WriteFault old new = (bytes : List ℕ) × IsPage bytes × WroteFirst bytes old new
WritesDocument Convert _ old new = Unit {0}
WritesDocument Expand _ old new = Unit {0}

abbrev pub DocumentAsked : Result Request ℕ → Status → Ink → Ink → Type 0
DocumentAsked (Ok request) status old new = WritesDocument request.command status old new
DocumentAsked (Err which) status old new = Unit {0}

-- convert begins to write only what has no fault
abbrev pub WritesPage : Command → Status → Outcome → Type 0
WritesPage Convert WriteFault all = all.status ≡ Done
WritesPage Convert _ all = Unit {0}
WritesPage Expand _ all = Unit {0}

abbrev pub PageAsked : Result Request ℕ → Status → Outcome → Type 0
PageAsked (Ok request) status all = WritesPage request.command status all
PageAsked (Err which) status all = Unit {0}

-- expand has written whole lines: those of the first records
abbrev pub WholeLines : Outcome → Ink → Ink → Type 0
WholeLines all old new = (rows : List Record) × (more : List Record) × (all.records ≡ rows ++ more) × (new ≡ inked old (trace rows))

abbrev pub LinesBy : Command → Outcome → Ink → Ink → Type 0
LinesBy Convert all old new = Unit {0}
LinesBy Expand all old new = WholeLines all old new

abbrev pub LinesAsked : Result Request ℕ → Outcome → Ink → Ink → Type 0
LinesAsked (Ok request) all old new = LinesBy request.command all old new
LinesAsked (Err which) all old new = Unit {0}
