-- The table of elements, written out. A law of the crate says that the code's table is this one.
use Rattle.std.specs.Prelude.{ℕ, true, false, List, [], ◌∷◌, ◌++◌, map, fold, Option, None, Some, codes}
use Rattle.std.specs.Option.{option_map}
use Prim.Native.String.{String}
use Rattle.texml_tree.specs.declared.table.Flags.{Flags}
use Rattle.texml_tree.specs.declared.table.ElementLine.{ElementLine}
use Rattle.texml_tree.specs.declared.table.Elements.{Elements}
use Rattle.texml_top.specs.declared.table.Flag.{Flag}
use Rattle.texml_top.specs.declared.table.Flag.TheVariants.{Text, Block, Opens, Closes, Id, Toc, Void}
use Rattle.texml_top.specs.Table.{with_flag}

-- what stands in texts
abbrev pub inline : List (List ℕ)
inline = map codes ("math" ∷ "emph" ∷ "strong" ∷ "code" ∷ "link" ∷ "ref" ∷ "note" ∷ "graphics" ∷ "break" ∷ "num" ∷ [])

-- what stands beside paragraphs, and these
abbrev pub blocks : List (List ℕ)
blocks = map codes ("p" ∷ "list" ∷ "olist" ∷ "dlist" ∷ "quote" ∷ "verbatim" ∷ "figure" ∷ "float" ∷ "tabular" ∷ "equation" ∷ "display" ∷ "toc" ∷ "bibliography" ∷ [])

abbrev pub no_flags : Flags
no_flags = record { text = false; block = false; opens = false; closes = false; id = false; toc = false; void = false }

-- a name, a tag and perhaps a class, flags, what an element holds by name and by a set, attributes
abbrev pub line : String → String → Option String → List Flag → List String → List (List ℕ) → List String → ElementLine
line name tag class flags names set attrs = record {
  name = codes name;
  tag = codes tag;
  class = option_map codes class;
  flags = fold with_flag no_flags flags;
  holds = map codes names ++ set;
  attrs = map codes attrs;
}

abbrev pub written : Elements
written = record {
  lines =
      line "document" "main" None (Id ∷ []) ("title" ∷ "author" ∷ "date" ∷ "abstract" ∷ "section" ∷ "subsection" ∷ "subsubsection" ∷ []) blocks [] ∷
      line "title" "h1" None (Text ∷ Block ∷ []) [] inline [] ∷
      line "author" "p" (Some "author") (Text ∷ Block ∷ []) [] inline [] ∷
      line "date" "p" (Some "date") (Text ∷ Block ∷ []) [] inline [] ∷
      line "abstract" "div" (Some "abstract") [] [] blocks [] ∷
      line "section" "section" None (Id ∷ Closes ∷ Toc ∷ []) ("heading" ∷ "subsection" ∷ "subsubsection" ∷ []) blocks ("number" ∷ []) ∷
      line "subsection" "section" None (Id ∷ Closes ∷ Toc ∷ []) ("subheading" ∷ "subsubsection" ∷ []) blocks ("number" ∷ []) ∷
      line "subsubsection" "section" None (Id ∷ Closes ∷ Toc ∷ []) ("subsubheading" ∷ []) blocks ("number" ∷ []) ∷
      line "heading" "h2" None (Text ∷ Block ∷ []) [] inline [] ∷
      line "subheading" "h3" None (Text ∷ Block ∷ []) [] inline [] ∷
      line "subsubheading" "h4" None (Text ∷ Block ∷ []) [] inline [] ∷
      line "p" "p" None (Text ∷ Block ∷ Opens ∷ Closes ∷ []) [] inline [] ∷
      line "list" "ul" None [] ("item" ∷ []) [] [] ∷
      line "olist" "ol" None [] ("item" ∷ []) [] [] ∷
      line "dlist" "ul" (Some "description") [] ("item" ∷ []) [] [] ∷
      line "item" "li" None (Id ∷ Closes ∷ []) ("term" ∷ []) blocks ("number" ∷ []) ∷
      line "term" "b" (Some "term") (Text ∷ []) [] inline [] ∷
      line "quote" "blockquote" None [] [] blocks [] ∷
      line "verbatim" "pre" None (Text ∷ []) [] [] [] ∷
      line "figure" "figure" None (Id ∷ []) ("caption" ∷ "graphics" ∷ []) blocks ("number" ∷ []) ∷
      line "float" "figure" (Some "table") (Id ∷ []) ("caption" ∷ "graphics" ∷ []) blocks ("number" ∷ []) ∷
      line "caption" "figcaption" None (Text ∷ Block ∷ []) [] inline [] ∷
      line "graphics" "img" None (Void ∷ []) [] [] ("src" ∷ []) ∷
      line "break" "br" None (Void ∷ []) [] [] [] ∷
      line "tabular" "table" None [] ("tr" ∷ []) [] [] ∷
      line "tr" "tr" None (Opens ∷ Closes ∷ []) ("td" ∷ []) [] [] ∷
      line "td" "td" None (Text ∷ Block ∷ Opens ∷ Closes ∷ []) ("tabular" ∷ "list" ∷ "olist" ∷ []) inline ("colspan" ∷ []) ∷
      line "equation" "div" (Some "equation") (Text ∷ Block ∷ Id ∷ []) ("num" ∷ []) [] ("number" ∷ []) ∷
      line "display" "div" (Some "display") (Text ∷ Block ∷ []) [] [] [] ∷
      line "toc" "ul" (Some "toc") [] [] [] [] ∷
      line "bibliography" "section" (Some "bibliography") [] ("heading" ∷ "bibitem" ∷ []) [] [] ∷
      line "bibitem" "p" (Some "bibitem") (Text ∷ Block ∷ Id ∷ Closes ∷ []) [] inline ("number" ∷ []) ∷
      line "math" "span" (Some "math") (Text ∷ []) [] [] [] ∷
      line "emph" "em" None (Text ∷ []) [] inline [] ∷
      line "strong" "strong" None (Text ∷ []) [] inline [] ∷
      line "code" "code" None (Text ∷ []) [] inline [] ∷
      line "link" "a" None (Text ∷ []) [] inline ("href" ∷ []) ∷
      line "ref" "a" None [] [] [] [] ∷
      line "note" "span" (Some "note") (Text ∷ Id ∷ []) [] inline ("number" ∷ []) ∷
      line "num" "span" (Some "num") (Text ∷ []) [] [] [] ∷
      [];
  attributes = map codes ("number" ∷ "src" ∷ "colspan" ∷ "href" ∷ []);
}
