use Rattle.std.proofs.Common.{◌≡◌, ◌+◌, arith, ap, refl, length, drop, take, length-drop}
use Rattle.texml_base.specs.Memory.{given_by, left_in}
use Rattle.texml_base.specs.Place.{place}
use Rattle.texml_base.proofs.Ids.{found_at, put_back}
use Rattle.texml_base.proofs.Giving.{GivesPiece, fits, piece_length, number_falls, given_grows, left_falls, ends}
use Rattle.texml_base.proofs.memory_files.CalmFilesFiles.read_file.Goals as goal

pub returns-clause-read : goal.returns-clause-read
returns-clause-read c =
    let id = c.args.id in
    let os = c.args.self.now.opened.items in
    let old = c.index_mut.result.now in
    let new = c.give-count.new.self in
    let n = c.give-count.result in
    let buffer = c.give-count.new.into in
    let file = old.file.bytes.items in
    let at : c.place_of-place.result ≡ place id os = rw c.deref.ensures.value at c.place_of-place.ensures.first in
    let before = found_at id _ os old c.requires.open at c.index_mut.ensures.value in
    let put = put_back id _ os (record { id = old.id; file = new }) c.requires.open at before.1 in
    let gives : GivesPiece file old.file.at c.args.self.now.piece n buffer = record {
      count = omega (arith, old.file.bytes.ok.0, c.give-count.ensures.count);
      some = c.args.self.now.some;
      room = omega (arith, c.requires.room);
      within = omega (arith, old.file.within, old.file.bytes.ok.0);
      piece = c.give-count.ensures.given;
    } in
    let moved : drop new.at new.bytes.items ≡ drop (old.file.at + n) file = cc in
    let taken : take new.at new.bytes.items ≡ take (old.file.at + n) file = cc in (
      fits file old.file.at c.args.self.now.piece n buffer gives,
      record {
        tells = refl;
        contents = refl;
        ids = put.ids;
        number = rw (put.same, before.0, moved) (number_falls file old.file.at c.args.self.now.piece n buffer gives);
        given = λ _. rw (put.same, before.0, taken) (given_grows file old.file.at c.args.self.now.piece n buffer gives);
        left = λ _. rw (put.same, before.0, moved) (left_falls file old.file.at c.args.self.now.piece n buffer gives);
        end = λ _ none. rw before.0 (ends file old.file.at c.args.self.now.piece n buffer gives none);
        total = λ _. rw (piece_length file old.file.at c.args.self.now.piece n buffer gives) (omega (arith, c.saturating_add-self.ensures));
        others = λ k ne. let kept = put.others k ne in
            record { given = ap given_by kept; left = ap left_in kept; number = ap (λ r. length (left_in r)) kept };
      },
    )

pub returns-clause-count : goal.returns-clause-count
returns-clause-count c =
    let id = c.args.id in
    let os = c.args.self.now.opened.items in
    let old = c.index_mut.result.now in
    let at : c.place_of-place.result ≡ place id os = rw c.deref.ensures.value at c.place_of-place.ensures.first in
    let before = found_at id _ os old c.requires.open at c.index_mut.ensures.value in
    rw before.0 (omega (arith, length-drop old.file.at old.file.bytes.items, old.file.bytes.ok.0, c.give-count.ensures.count))
