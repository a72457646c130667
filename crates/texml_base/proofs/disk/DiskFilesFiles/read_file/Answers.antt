use Rattle.std.proofs.Common.{◌≡◌, true, false, ap, ◌∙◌, refl, sym}
use Rattle.std.proofs.lemmas.List.{length-take-le}
use Rattle.texml_base.specs.Disk.{budget_of, remaining_of}
use Rattle.texml_base.specs.Place.{place}
use Rattle.texml_base.proofs.Ids.{found_at, put_back}
use Rattle.texml_base.proofs.Untold.{disk_shelf-put}
use Rattle.texml_base.proofs.disk.DiskFilesFiles.read_file.Goals as goal

pub returns-in-Ok-clause-read : goal.returns-in-Ok-clause-read
returns-in-Ok-clause-read g c =
    let id = c.args.id in
    let os = c.args.self.now.opened.items in
    let old = c.index_mut.result.now in
    let at : c.place_of-place.result ≡ place id os = rw c.deref.ensures.value at c.place_of-place.ensures.first in
    let before = found_at id _ os old c.requires.open at c.index_mut.ensures.value in
    let put = put_back id _ os (record { id = old.id; file = c.give.new.self }) c.requires.open at before.1 in
    let gave = c.in-Ok.ensures.budget in (
      gave.0,
      record {
        tells = refl;
        contents = refl;
        ids = put.ids;
        number = rw (put.same, before.0, length-take-le c.in-Ok.count c.give.new.into gave.0) gave.1;
        given = λ t. cc;
        left = λ t. cc;
        end = λ t none. refl;
        total = λ t. cc;
        others = λ k ne. record { given = refl; left = refl; number = ap budget_of (put.others k ne) };
      },
    )

pub returns-in-Ok-clause-bytes : goal.returns-in-Ok-clause-bytes
returns-in-Ok-clause-bytes g c =
    let id = c.args.id in
    let os = c.args.self.now.opened.items in
    let old = c.index_mut.result.now in
    let at : c.place_of-place.result ≡ place id os = rw c.deref.ensures.value at c.place_of-place.ensures.first in
    let before = found_at id _ os old c.requires.open at c.index_mut.ensures.value in
    let put = put_back id _ os (record { id = old.id; file = c.give.new.self }) c.requires.open at before.1 in
    rw (put.same, before.0) c.in-Ok.ensures.bytes

pub returns-in-Ok-clause-others : goal.returns-in-Ok-clause-others
returns-in-Ok-clause-others g c =
    let id = c.args.id in
    let os = c.args.self.now.opened.items in
    let old = c.index_mut.result.now in
    let at : c.place_of-place.result ≡ place id os = rw c.deref.ensures.value at c.place_of-place.ensures.first in
    let before = found_at id _ os old c.requires.open at c.index_mut.ensures.value in
    let put = put_back id _ os (record { id = old.id; file = c.give.new.self }) c.requires.open at before.1 in
    λ k ne. ap (remaining_of g.R.File.Read.remaining) (put.others k ne)

pub returns-in-Ok-clause-spent : goal.returns-in-Ok-clause-spent
returns-in-Ok-clause-spent g c =
    let id = c.args.id in
    let os = c.args.self.now.opened.items in
    let old = c.index_mut.result.now in
    let at : c.place_of-place.result ≡ place id os = rw c.deref.ensures.value at c.place_of-place.ensures.first in
    let before = found_at id _ os old c.requires.open at c.index_mut.ensures.value in
    λ none. let wrong : false ≡ true = c.in-Ok.ensures.spent (sym (ap budget_of before.0) ∙ none) in cc

pub returns-in-Err-clause-read : goal.returns-in-Err-clause-read
returns-in-Err-clause-read g c =
    let id = c.args.id in
    let os = c.args.self.now.opened.items in
    let old = c.index_mut.result.now in
    let at : c.place_of-place.result ≡ place id os = rw c.deref.ensures.value at c.place_of-place.ensures.first in
    let before = found_at id _ os old c.requires.open at c.index_mut.ensures.value in
    let put = put_back id _ os (record { id = old.id; file = c.give.new.self }) c.requires.open at before.1 in
    disk_shelf-put id os _ old.file c.give.new.self put before.0 c.in-Err.ensures.budget

pub returns-in-Err-clause-bytes : goal.returns-in-Err-clause-bytes
returns-in-Err-clause-bytes g c =
    let id = c.args.id in
    let os = c.args.self.now.opened.items in
    let old = c.index_mut.result.now in
    let at : c.place_of-place.result ≡ place id os = rw c.deref.ensures.value at c.place_of-place.ensures.first in
    let before = found_at id _ os old c.requires.open at c.index_mut.ensures.value in
    let put = put_back id _ os (record { id = old.id; file = c.give.new.self }) c.requires.open at before.1 in
    rw (put.same, before.0) c.in-Err.ensures.bytes

pub returns-in-Err-clause-others : goal.returns-in-Err-clause-others
returns-in-Err-clause-others g c =
    let id = c.args.id in
    let os = c.args.self.now.opened.items in
    let old = c.index_mut.result.now in
    let at : c.place_of-place.result ≡ place id os = rw c.deref.ensures.value at c.place_of-place.ensures.first in
    let before = found_at id _ os old c.requires.open at c.index_mut.ensures.value in
    let put = put_back id _ os (record { id = old.id; file = c.give.new.self }) c.requires.open at before.1 in
    λ k ne. ap (remaining_of g.R.File.Read.remaining) (put.others k ne)
