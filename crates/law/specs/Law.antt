-- The law over whole runs: what the trace of every run from a fresh memory keeps, whatever the calls, the kind of content and
-- the bank.
use Rattle.std.specs.Prelude.{◌≡◌, ℕ, suc, ◌<◌, ◌≤◌, true, cond, ◌⊎◌, List, [], ◌∷◌, length, Some, None, Option, ◌==◌, ◌≢◌}
use Rattle.tables.specs.declared.reply.Conflict.{Conflict}
use Rattle.tables.specs.declared.reply.Conflict.TheVariants.{Held, Changed, Spent}
use Rattle.tables.specs.declared.reply.Request.{Request}
use Rattle.tables.specs.declared.reply.Request.TheVariants.{Begin, Read, Write, Commit, Withdraw}
use Rattle.law.specs.Trace.{Trace}
use Rattle.law.specs.Ledger.{Maker, Found, Reading, Hold, Desk, first, among, of_request, answer_of, whose}
use Rattle.law.specs.Ledger.{placed_at, begun_at, certified_at, sealed_at, ended_at, stored_at, freed_at, requests, readings, holds, taken, makers, desk}
use Rattle.law.specs.Ledger.Maker.{opening, by}
use Rattle.law.specs.Ledger.Found.{version}
use Rattle.law.specs.Ledger.Desk.{free, asked}

-- a is a member of the list
abbrev pub In : {A : Type 0} → A → List A → Type 0
In a [] = ⊥
In a (b ∷ bs) = (a ≡ b) ⊎ In a bs

abbrev pub Known : Option ℕ → Type 0
Known a = (m : ℕ) × (a ≡ Some m)

-- a is a time, and b one after it
abbrev pub Earlier : Option ℕ → Option ℕ → Type 0
Earlier a b = (m : ℕ) × (n : ℕ) × (a ≡ Some m) × (b ≡ Some n) × (m < n)

-- The run alone: a content for each object, and pending contents.
pub record Alone (K : Type 0) : Type 0 where
  pub own : ℕ → K
  pub pend : ℕ → Option K

-- among the makers of an object's versions: u's version is newer than m's
abbrev pub NewerBy : ℕ → ℕ → List ℕ → Type 0
NewerBy u m [] = ⊥
NewerBy u m (t ∷ ts) = ((u ≡ t) × In m ts) ⊎ NewerBy u m ts

abbrev pub Newer : ℕ → Maker → List ℕ → Type 0
Newer u opening ts = In u ts
Newer u (by m) ts = NewerBy u m ts

module _ {K : Type 0} where
  -- a memory with no pending contents
  abbrev pub rested : (ℕ → K) → Alone K
  rested m = record { own = m; pend = λ x. None }

  -- what an object shows to the transaction: its pending content, or else its own
  abbrev pub shows : Alone K → ℕ → K
  shows m x = first (m.pend x) (m.own x)

  -- begin empties the pending contents, a write sets one, commit stores them all
  abbrev pub feed : Alone K → Request K → Alone K
  feed m Begin = rested m.own
  feed m (Read x) = m
  feed m (Write x v) = record { own = m.own; pend = λ y. cond (x == y) (Some v) (m.pend y) }
  feed m Commit = record { own = shows m; pend = m.pend }
  feed m Withdraw = m

  -- what a request gets: a read gets what its object shows
  abbrev pub gets : Alone K → Request K → List K → List K
  gets m Begin vs = vs
  gets m (Read x) vs = shows m x ∷ vs
  gets m (Write x v) vs = vs
  gets m Commit vs = vs
  gets m Withdraw vs = vs

  -- after a list of requests, and what they got
  abbrev pub fed : Alone K → List (Request K) → Alone K
  fed m [] = m
  fed m (r ∷ rs) = feed (fed m rs) r

  abbrev pub gotten : Alone K → List (Request K) → List K
  gotten m [] = []
  gotten m (r ∷ rs) = gets (fed m rs) r (gotten m rs)

  -- after the transactions ts, one after another, the last of them first in the list
  abbrev pub alone : (ℕ → K) → Trace K → List ℕ → Alone K
  alone m j [] = rested m
  alone m j (t ∷ ts) = fed (alone m j ts) (requests j t)

  abbrev pub contents : List (Reading K) → List K
  contents [] = []
  contents (r ∷ rs) = r.content ∷ contents rs

  -- each of ts, run alone after those before it, gets from its reads what the trace has
  abbrev pub SameReads : (ℕ → K) → Trace K → List ℕ → Type 0
  SameReads m j [] = Unit {0}
  SameReads m j (t ∷ ts) = SameReads m j ts × (contents (readings j t) ≡ gotten (alone m j ts) (requests j t))

  -- each of ts began its certification later than those before it
  abbrev pub InOrder : Trace K → List ℕ → Type 0
  InOrder j [] = Unit {0}
  InOrder j (t ∷ ts) = InOrder j ts × ((u : ℕ) → In u ts → Earlier (certified_at j u) (certified_at j t))

  -- no sealed transaction has an object still to store
  abbrev pub Settled : Trace K → Type 0
  Settled j = (t x : ℕ) → Known (sealed_at j t) → among x (taken j t) ≡ true → Known (stored_at j t x)

  -- Strict serializability, in the order in which certification began.
  pub record Serial (start : ℕ → K) (j : Trace K) (end : ℕ → K) : Type 0 where
    -- the sealed transactions, all of them and no others
    pub order : List ℕ
    pub all : (t : ℕ) → Known (sealed_at j t) → In t order
    pub only : (t : ℕ) → In t order → Known (sealed_at j t)
    pub ordered : InOrder j order
    -- run alone in this order, they read the same and leave the same contents
    pub reads : SameReads start j order
    pub leaves : Settled j → (x : ℕ) → end x ≡ (alone start j order).own x
    -- one that ended before the begin of another was placed comes before it
    pub real_time : (t u : ℕ) → Known (sealed_at j t) → Known (sealed_at j u) → Earlier (ended_at j t) (placed_at j u)
        → Earlier (certified_at j t) (certified_at j u)

  -- the content of a version of x: the opening's, or what its maker leaves in x when it is run alone on any memory
  abbrev pub Content : (ℕ → K) → Trace K → ℕ → Maker → K → Type 0
  Content start j x opening v = start x ≡ v
  Content start j x (by u) v = Known (sealed_at j u) × ((m : ℕ → K) → (fed (rested m) (requests j u)).own x ≡ v)

  -- every read of every transaction got the content of the version that it found
  abbrev pub Genuine : (ℕ → K) → Trace K → Type 0
  Genuine start j =
      (t : ℕ) (r : Reading K) (m : Maker) → In r (readings j t) → r.found ≡ version m → Content start j r.object m r.content

  -- t read a version of u; t is sealed and replaced one of u
  abbrev pub ReadOf : Trace K → ℕ → ℕ → Type 0
  ReadOf j t u = (r : Reading K) × In r (readings j t) × (r.found ≡ version (by u))

  abbrev pub Replaced : Trace K → ℕ → ℕ → Type 0
  Replaced j t u = Known (sealed_at j t) × ((h : Hold) × In h (holds j t) × (h.over ≡ by u))

  pub data Follows (j : Trace K) : ℕ → ℕ → Type 0 where
    reading : {t u : ℕ} → ReadOf j t u → Follows j t u
    replacing : {t u : ℕ} → Replaced j t u → Follows j t u
    chain : {t u : ℕ} (w : ℕ) → Follows j t w → Follows j w u → Follows j t u

  pub data ComesAfter (j : Trace K) : ℕ → ℕ → Type 0 where
    reading : {t u : ℕ} → ReadOf j t u → ComesAfter j t u
    replacing : {t u : ℕ} → Replaced j t u → ComesAfter j t u
    later : {t u : ℕ} → Earlier (ended_at j u) (placed_at j t) → ComesAfter j t u
    chain : {t u : ℕ} (w : ℕ) → ComesAfter j t w → ComesAfter j w u → ComesAfter j t u

  -- a maker is the opening, u itself, or one that u follows
  abbrev pub KnownTo : Trace K → ℕ → Maker → Type 0
  KnownTo j u opening = Unit {0}
  KnownTo j u (by m) = (m ≡ u) ⊎ Follows j u m

  -- each version that t read or became the holder over before a time has such a maker
  pub record FairAt (j : Trace K) (t u n : ℕ) : Type 0 where
    pub of_reads : (r : Reading K) (m : Maker) → In r (readings j t) → r.at < n → r.found ≡ version m → KnownTo j u m
    pub of_holds : (h : Hold) → In h (holds j t) → h.at < n → KnownTo j u h.over

  -- t is bound to u by reading a version of u, if u was sealed after t's begin was answered; every binding of t is fair
  abbrev pub Fair : Trace K → ℕ → Type 0
  Fair j t =
      (r : Reading K) (u : ℕ) → In r (readings j t) → r.found ≡ version (by u) → Earlier (begun_at j t) (sealed_at j u) → FairAt j t u r.at

  -- no version that t read is older than one of a transaction that t comes after
  abbrev pub Consistent : Trace K → ℕ → Type 0
  Consistent j t =
      (r : Reading K) (m : Maker) (u : ℕ) → In r (readings j t) → r.found ≡ version m → ComesAfter j t u → Newer u m (makers j r.object) → ⊥

  -- the most steps that a request may make, with P processes
  abbrev pub most : ℕ → Request K → ℕ
  most P r = cond (of_request r).begins P 49

  -- t is open at the time n: from the placing of its begin through the step that ends it
  pub record OpenAt (j : Trace K) (t n : ℕ) : Type 0 where
    pub from : (m : ℕ) × (placed_at j t ≡ Some m) × (m ≤ n)
    pub until : (m : ℕ) → ended_at j t ≡ Some m → n ≤ m

  -- u neither stored nor freed x before n
  pub record Keeps (j : Trace K) (u x n : ℕ) : Type 0 where
    pub stores : (m : ℕ) → stored_at j u x ≡ Some m → n ≤ m
    pub frees : (m : ℕ) → freed_at j u x ≡ Some m → n ≤ m

  -- at the time n transaction u held x
  abbrev pub HeldAt : Trace K → ℕ → ℕ → ℕ → Type 0
  HeldAt j u x n = (h : Hold) × In h (holds j u) × (h.object ≡ x) × (h.at ≤ n) × Keeps j u x n

  -- another transaction held x while both were open
  abbrev pub Disturbed : Trace K → ℕ → ℕ → Type 0
  Disturbed j t x = (u : ℕ) × (n : ℕ) × (n < length j) × (u ≢ t) × OpenAt j t n × OpenAt j u n × HeldAt j u x n

  abbrev pub Justified : Trace K → ℕ → Conflict → Type 0
  Justified j t (Held x) = Disturbed j t x
  Justified j t (Changed x) = Disturbed j t x
  Justified j t Spent = Unit {0}

  -- the count of an answer's steps is one more than the process with d in hand had made, and not too large
  abbrev pub Counted : ℕ → Desk K → Option ℕ → Type 0
  Counted P d None = Unit {0}
  Counted P free (Some n) = ⊥
  Counted P (asked r k f) (Some n) = (n ≡ suc k) × (n ≤ most P r)

  -- Requests are answered within a bounded number of own steps, and aborts have a reason.
  abbrev pub Prompt : ℕ → Trace K → Type 0
  Prompt P [] = Unit {0}
  Prompt P (l ∷ j) =
      Prompt P j
      × ((p : ℕ) (r : Request K) (n : ℕ) (f : Option Found) → desk (l ∷ j) p ≡ asked r n f → n < most P r)
      × Counted P (desk j l.process) (answer_of l.act).steps
      × ((t : ℕ) (c : Conflict) → whose j l.process ≡ Some t → (answer_of l.act).conflict ≡ Some c → Justified (l ∷ j) t c)

-- With P processes, the contents at the start and at the end.
pub record Lawful {K : Type 0} (P : ℕ) (start : ℕ → K) (j : Trace K) (end : ℕ → K) : Type 0 where
  pub serial : Serial start j end
  pub genuine : Genuine start j
  pub consistent : (t : ℕ) → Fair j t → Consistent j t
  pub prompt : Prompt P j
