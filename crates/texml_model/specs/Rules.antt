-- What a content model says: the rules of a table of elements. An element is its place in the table, an attribute its place
-- in the list of attributes. Of what isn't there nothing is said: it has no flags, holds nothing and is held by nothing.
use Rattle.std.specs.Prelude.{◌≡◌, ℕ, Bool, true, false, ◌&&◌, ◌||◌, not, IsTrue, List, [], ◌∷◌, map, length, Option, Some, None, nat_eq, unwrap_or, codes}
use Rattle.std.specs.Option.{option_map_or}
use Rattle.std.specs.List.{slice_get, list_any, list_all, position, position_or_len}
use Rattle.texml_token.specs.Token.{text_eq}
use Rattle.texml_tree.specs.declared.table.Elements.{Elements}
use Rattle.texml_tree.specs.declared.table.ElementLine.{ElementLine}
use Rattle.texml_tree.specs.declared.table.Flags.{Flags}
use Rattle.texml_model.specs.Chain.{Holding, Leads, chain_between}

pub record Rules : Type 0 where
  -- how many elements and attributes there are
  pub size : ℕ
  pub attributes : ℕ
  -- names, and the element of a name
  pub name : ℕ → List ℕ
  pub named : List ℕ → Option ℕ
  pub attr_name : ℕ → List ℕ
  -- how an element is written: its tag, its class if it has one, and its attributes in their order
  pub tag : ℕ → List ℕ
  pub class : ℕ → Option (List ℕ)
  pub attrs : ℕ → List ℕ
  -- what may stand in it, and the elements that open by themselves between it and a child, or a text where there is no child
  pub takes_text : ℕ → Bool
  pub holds : ℕ → ℕ → Bool
  pub may_attr : ℕ → ℕ → Bool
  pub chain : ℕ → Option ℕ → Option (List ℕ)
  -- its other flags
  pub block : ℕ → Bool
  pub opens : ℕ → Bool
  pub closes : ℕ → Bool
  pub id : ℕ → Bool
  pub toc : ℕ → Bool
  pub void : ℕ → Bool

abbrev pub flags_of : Rules → ℕ → Flags
flags_of r e = record { text = r.takes_text e; block = r.block e; opens = r.opens e; closes = r.closes e; id = r.id e; toc = r.toc e; void = r.void e }

abbrev pub holding_of : Rules → Holding
holding_of r = record { size = r.size; opens = r.opens; takes_text = r.takes_text; holds = r.holds }

-- each chain that is given leads from the parent to the child
abbrev pub Sound : Rules → Type 0
Sound r = (p : ℕ) (child : Option ℕ) (chain : List ℕ) → r.chain p child ≡ Some chain → Leads (holding_of r) p chain child

-- an element that is flagged `void` takes neither texts nor elements
pub record VoidIsEmpty (r : Rules) : Type 0 where
  pub no_text : (e : ℕ) → r.void e ≡ true → r.takes_text e ≡ false
  pub no_child : (e child : ℕ) → r.void e ≡ true → r.holds e child ≡ false

-- The rules of a table, line by line.

-- what f says of the line of an element, or the other value where there is no line
abbrev pub line_or : {A : Type 0} → A → (ElementLine → A) → Elements → ℕ → A
line_or other f elements e = option_map_or f (slice_get elements.lines e) other

abbrev pub lists : List (List ℕ) → List ℕ → Bool
lists texts text = list_any (λ t. text_eq t text) texts

-- the parent's line lists the child's name
abbrev pub held : Elements → ℕ → ℕ → Bool
held elements p e = line_or false (λ parent. line_or false (λ child. lists parent.holds child.name) elements e) elements p

abbrev pub attr_number : Elements → List ℕ → ℕ
attr_number elements name = position_or_len (λ t. text_eq t name) elements.attributes

abbrev pub attrs_of : Elements → ℕ → List ℕ
attrs_of elements = line_or [] (λ line. map (attr_number elements) line.attrs) elements

abbrev pub holding_in : Elements → Holding
holding_in elements = record {
  size = length elements.lines;
  opens = line_or false (λ line. line.flags.opens) elements;
  takes_text = line_or false (λ line. line.flags.text) elements;
  holds = held elements;
}

unfoldable pub rules_of : Elements → Rules
rules_of elements = record {
  size = length elements.lines;
  attributes = length elements.attributes;
  name = line_or [] (λ line. line.name) elements;
  named = λ name. position (λ line. text_eq line.name name) elements.lines;
  attr_name = λ a. unwrap_or (slice_get elements.attributes a) [];
  tag = line_or [] (λ line. line.tag) elements;
  class = line_or None (λ line. line.class) elements;
  attrs = attrs_of elements;
  takes_text = line_or false (λ line. line.flags.text) elements;
  holds = held elements;
  may_attr = λ e a. list_any (λ b. nat_eq b a) (attrs_of elements e);
  chain = chain_between (holding_in elements);
  block = line_or false (λ line. line.flags.block) elements;
  opens = line_or false (λ line. line.flags.opens) elements;
  closes = line_or false (λ line. line.flags.closes) elements;
  id = line_or false (λ line. line.flags.id) elements;
  toc = line_or false (λ line. line.flags.toc) elements;
  void = line_or false (λ line. line.flags.void) elements;
}

-- What a table has to meet to be a content model. Each part is a test that computes.

abbrev pub each_once : List (List ℕ) → Bool
each_once [] = true
each_once (t ∷ ts) = not (lists ts t) && each_once ts

abbrev pub is_empty : List (List ℕ) → Bool
is_empty [] = true
is_empty (t ∷ ts) = false

abbrev pub names_of : Elements → List (List ℕ)
names_of elements = map (λ line. line.name) elements.lines

pub record IsContentModel (elements : Elements) : Type 0 where
  -- names are distinct, and `document` is one of them
  pub names : IsTrue (each_once (names_of elements))
  pub root : IsTrue (lists (names_of elements) (codes "document"))
  -- what a line lists is in the table, an attribute once
  pub held : IsTrue (list_all (λ line. list_all (lists (names_of elements)) line.holds) elements.lines)
  pub attributes : IsTrue (each_once elements.attributes)
  pub attrs : IsTrue (list_all (λ line. each_once line.attrs && list_all (lists elements.attributes) line.attrs) elements.lines)
  -- a void element takes neither texts nor elements
  pub void : IsTrue (list_all (λ line. not line.flags.void || (not line.flags.text && is_empty line.holds)) elements.lines)
