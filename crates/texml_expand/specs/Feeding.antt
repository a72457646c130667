-- What the code decides by the tokens that it is fed, one after the other.
use Rattle.std.specs.Prelude.{◌≡◌, ◌<◌, ◌-◌, ◌+◌, ℕ, List, [], ◌∷◌, length, take, if◌then◌else◌, IsTrue, Result, Ok, Err}
use Rattle.std.specs.List.{count_by}
use Rattle.texml_base.specs.Outside.{Shelf}
use Rattle.texml_token.specs.Token.{Token, has_category}
use Rattle.texml_token.specs.declared.category.TheConstants.{BEGIN_GROUP, END_GROUP}
use Rattle.texml_token.specs.Numbers.{Table, Numbered, tokens_at, TokensWithin}
use Rattle.texml_token.specs.declared.fault.Fault.{Fault}
use Rattle.texml_token.specs.declared.tokens.Token.{Token as TokenCode}
use Rattle.texml_expand.specs.declared.stop.Stop.{Stop}
use Rattle.texml_expand.specs.declared.stop.Stop.TheVariants as stop
use Rattle.texml_expand.specs.declared.feeding.Verdict.{Verdict}
use Rattle.texml_expand.specs.declared.feeding.Verdict.TheVariants.{TooShort, Yields, Refuses}
use Rattle.texml_expand.specs.State.{State, End, Tex, Limit, Gains, loads, ◌⊕◌, added, Done, Ended, fault_at}
use Rattle.texml_expand.specs.Held.{Held, Shrinks}
use Rattle.texml_input.specs.Held.{Source, AreLittle}
use Rattle.texml_expand.specs.Spending.{Spent}
use Rattle.texml_expand.specs.Least.{inner_token, next_tokens}
use Rattle.texml_expand.specs.Absorb.{closes}

-- what lists of tokens decide, by the texts of their names
abbrev pub Judge : Type 0 → Type 0
Judge V = Table → List TokenCode → Verdict V

-- a token was fed: the list of it alone decides this, and where that is too short more tokens decide what they did behind it
pub record IsFed {V : Type 0} (old : Judge V) (token : TokenCode) (verdict : Verdict V) (new : Judge V) (texts : Table) : Type 0 where
  pub is : old texts (token ∷ []) ≡ verdict
  pub on : verdict ≡ TooShort → (more : List TokenCode) → new texts more ≡ old texts (token ∷ more)

module _ {V : Type 0} (judge : Judge V) (old : State) where
  -- the next j tokens are these, and don't decide
  pub record Short (texts : Table) (j : ℕ) (list : List TokenCode) : Type 0 where
    pub now : State
    pub sizes : List ℕ
    pub tokens : next_tokens j old ≡ Done (tokens_at texts list) now (loads sizes)
    pub is : judge texts list ≡ TooShort

  -- the next tokens are these, and no first part of them decides
  pub record Seen (texts : Table) (list : List TokenCode) (now : State) : Type 0 where
    pub numbered : Numbered texts
    pub within : TokensWithin (length texts) list
    pub sizes : List ℕ
    pub tokens : next_tokens (length list) old ≡ Done (tokens_at texts list) now (loads sizes)
    pub before : (j : ℕ) → j < length list → Short texts j (take j list)

  -- they decide
  pub record Settled (texts : Table) (now : State) (verdict : Verdict V) : Type 0 where
    pub list : List TokenCode
    pub seen : Seen texts list now
    pub is : judge texts list ≡ verdict

  -- they don't decide, and the next one can't be taken
  pub record CutShort (end : End) : Type 0 where
    pub texts : Table
    pub list : List TokenCode
    pub now : State
    pub seen : Seen texts list now
    pub is : judge texts list ≡ TooShort
    pub last : List ℕ
    pub cut : inner_token now ≡ Ended end (loads last)

  -- why feeding ends with a fault
  pub data EndsWith (fault : Fault) : Type 0 where
    Refused : (texts : Table) (now : State) (code : ℕ) → Settled texts now (Refuses code) → fault ≡ fault_at code [] now.place → EndsWith fault
    Cut : CutShort (Tex fault) → EndsWith fault

  -- what feeding answers: the table and the state behind it
  abbrev pub Feeds : Result V Stop → Table → State → Type 0
  Feeds (Ok v) texts now = Settled texts now (Yields v)
  Feeds (Err (stop.Tex f)) texts now = EndsWith f
  Feeds (Err (stop.Limit n)) texts now = CutShort (Limit n)
  Feeds (Err stop.ReadFailed) texts now = Unit {0}
  Feeds (Err stop.TellFailed) texts now = ⊥
  Feeds (Err stop.NoMemory) texts now = Unit {0}

  -- the same, if the files tell what they have
  abbrev pub FeedsTold : Shelf → Result V Stop → Table → State → Type 0
  FeedsTold before result texts now = IsTrue before.tells → Feeds result texts now

  -- these are the gains of the next tokens that decide, or of those that don't and the one behind them
  pub data FedGains (gains : Gains) : Type 0 where
    Deciding : (texts : Table) (now : State) (verdict : Verdict V) (s : Settled texts now verdict) → gains ≡ loads s.seen.sizes → FedGains gains
    Behind : (texts : Table) (list : List TokenCode) (now : State) (s : Seen texts list now) → judge texts list ≡ TooShort → gains ≡ loads s.sizes ⊕ added (inner_token now) → FedGains gains

  -- what files gave is no more than what these load
  pub record FedSpent (result : Result V Stop) (before now : Shelf) (a b : List Source) : Type 0 where
    pub gains : Gains
    pub fed : FedGains gains
    pub spent : Spent result before now a b gains

  abbrev pub FedSpends : Result V Stop → Shelf → Shelf → Held → Held → Type 0
  FedSpends result before now held new = IsTrue before.tells → AreLittle held.input.sources → FedSpent result before now held.input.sources new.input.sources

-- tokens were fed that decide on a value, and less is left to read by each of them
pub record FedBy {V : Type 0} (judge : Judge V) (value : V) (before : Shelf) (old : Held) (now : Shelf) (new : Held) : Type 0 where
  pub list : List TokenCode
  pub within : TokensWithin (length new.names) list
  pub is : judge new.names list ≡ Yields value
  pub shrinks : Shrinks (length list) before old now new

-- the tokens before the last one, where that closes the group that has begun
abbrev pub judge_group : Judge (List TokenCode)
judge_group texts list = if closes (tokens_at texts list) then Yields (take (length list - 1) list) else TooShort

-- so many groups have begun in these tokens and not ended
pub record IsOpen (list : List Token) (inner : ℕ) : Type 0 where
  pub balance : count_by (has_category BEGIN_GROUP) list ≡ count_by (has_category END_GROUP) list + inner
