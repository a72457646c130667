-- Only contracts of private functions need these: the frames that the code keeps, and the sources that they stand for.
use Rattle.std.specs.Prelude.{◌≡◌, List, [], ◌∷◌, ◌++◌, map, reverse}
use Rattle.texml_base.specs.Outside.{Shelf, IsClosed}
use Rattle.texml_input.specs.Held.{Source, Plain, Marked, File, Fence}
use Rattle.texml_input.specs.declared.turning.Frame.{Frame}
use Rattle.texml_input.specs.declared.turning.Frame.TheVariants as frame

-- a frame written out
abbrev pub written : Frame → List Source
written (frame.Token t) = Plain t ∷ []
written (frame.Frozen t) = Marked t ∷ []
written (frame.List tokens) = map Plain tokens
written (frame.Macro tokens) = map Plain tokens
written (frame.File f) = File f ∷ []
written frame.Fence = Fence ∷ []

abbrev pub written_all : List Frame → List Source
written_all [] = []
written_all (f ∷ frames) = written f ++ written_all frames

-- the frames, of which the last stands in front
abbrev pub sources_of : List Frame → List Source
sources_of frames = written_all (reverse frames)

-- the file that a frame is was closed
abbrev pub ClosesFrame : Shelf → Shelf → Frame → Type 0
ClosesFrame old new (frame.Token t) = new ≡ old
ClosesFrame old new (frame.Frozen t) = new ≡ old
ClosesFrame old new (frame.List tokens) = new ≡ old
ClosesFrame old new (frame.Macro tokens) = new ≡ old
ClosesFrame old new (frame.File f) = IsClosed old new f.reader.id
ClosesFrame old new frame.Fence = new ≡ old
