use Rattle.std.proofs.Common.{◌≡◌, ap, refl, length}
use Rattle.texml_base.specs.Memory.{given_by, left_in}
use Rattle.texml_base.specs.Place.{place}
use Rattle.texml_base.proofs.Ids.{taken_out}
use Rattle.texml_base.proofs.memory_files.CalmFilesFiles.close_file.Goals as goal

pub returns-clause-closed : goal.returns-clause-closed
returns-clause-closed c =
    let os = c.args.self.now.opened.items in
    let at : c.place_of-place.result ≡ place c.args.id os = rw c.deref.ensures.value at c.place_of-place.ensures.first in
    let out = taken_out c.args.id _ os c.remove.new.self.items c.requires at c.remove.ensures.items in
    record {
      tells = refl;
      contents = refl;
      ids = out.ids;
      total = refl;
      others = λ k ne. let same = out.others k ne in
          record { given = ap given_by same; left = ap left_in same; number = ap (λ r. length (left_in r)) same };
    }
