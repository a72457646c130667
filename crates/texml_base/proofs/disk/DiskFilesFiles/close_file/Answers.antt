use Rattle.std.proofs.Common.{◌≡◌, ap, refl}
use Rattle.texml_base.specs.Disk.{budget_of, remaining_of}
use Rattle.texml_base.specs.Place.{place}
use Rattle.texml_base.proofs.Ids.{taken_out}
use Rattle.texml_base.proofs.disk.DiskFilesFiles.close_file.Goals as goal

pub returns-clause-closed : goal.returns-clause-closed
returns-clause-closed g c =
    let os = c.args.self.now.opened.items in
    let at : c.place_of-place.result ≡ place c.args.id os = rw c.deref.ensures.value at c.place_of-place.ensures.first in
    let out = taken_out c.args.id _ os c.remove.new.self.items c.requires at c.remove.ensures.items in
    record {
      tells = refl;
      contents = refl;
      ids = out.ids;
      total = refl;
      others = λ k ne. record { given = refl; left = refl; number = ap budget_of (out.others k ne) };
    }

pub returns-clause-others : goal.returns-clause-others
returns-clause-others g c = λ k ne.
    let os = c.args.self.now.opened.items in
    let at : c.place_of-place.result ≡ place c.args.id os = rw c.deref.ensures.value at c.place_of-place.ensures.first in
    let out = taken_out c.args.id _ os c.remove.new.self.items c.requires at c.remove.ensures.items in
    ap (remaining_of g.R.File.Read.remaining) (out.others k ne)
