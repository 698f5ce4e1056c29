-- What every lawful run keeps of its versions.
use Rattle.std.proofs.Common.{◌≡◌, ℕ, ◌<◌, ◌≤◌, Bool, true, ◌⊎◌, List, [], ◌∷◌}
use Rattle.protocol.specs.Protocol.{State, Held, Seen, Hand, Phase}
use Rattle.protocol.specs.Protocol.Held.{by}
use Rattle.protocol.specs.Protocol.Seen.{saw}
use Rattle.protocol.specs.Protocol.Hand.{empty, full}
use Rattle.protocol.specs.Protocol.Phase.{out, starting, certifying, sealing}
use Rattle.protocol.specs.History.{History, Access, Mark, In, version, writes}
use Rattle.protocol.specs.History.Access.{rd, ov}
use Rattle.protocol.specs.History.Mark.{some}
use Rattle.protocol.proofs.Invariant.{Live, NoneDue}

-- what the proof keeps beside the history
pub record Ghost : Type 0 where
  -- the stamp of a seal
  pub stamp_of : ℕ → ℕ
  -- of a process: how many seals there were when it last began to look again; the version that its clock is to reach; its first clock
  pub since : ℕ → ℕ
  pub target : ℕ → ℕ
  pub start : ℕ → ℕ
  -- of a transaction: how many seals there were at its begin and at its end
  pub dawn : ℕ → ℕ
  pub dusk : ℕ → ℕ

abbrev pub Early : (ℕ → Phase) → ℕ → Type 0
Early f p = (f p ≡ starting) ⊎ Live f p

-- transactions and processes
pub record Who (f : ℕ → Phase) (current : ℕ → ℕ) (begun : ℕ) (log : ℕ → List Access) (seals : ℕ) (maker : ℕ → ℕ) : Type 0 where
  pub alive : (p : ℕ) → (f p ≡ out → ⊥) → current p < begun
  pub single : (p q : ℕ) → (f p ≡ out → ⊥) → (f q ≡ out → ⊥) → current p ≡ current q → p ≡ q
  pub made : (j : ℕ) → 0 < j → j ≤ seals → maker j < begun
  pub once : (j k : ℕ) → 0 < j → j ≤ seals → 0 < k → k ≤ seals → maker j ≡ maker k → j ≡ k
  pub unsealed : (p j : ℕ) → Early f p → 0 < j → j ≤ seals → maker j ≡ current p → ⊥
  pub blank : (t : ℕ) → begun ≤ t → log t ≡ []
  pub clean : (p : ℕ) → f p ≡ starting → log (current p) ≡ []

-- versions and stamps
pub record Vers {K : Type 0} (held : ℕ → Held K) (f : ℕ → Phase) (stamp : ℕ → ℕ) (log : ℕ → List Access) (seals : ℕ) (maker : ℕ → ℕ)
    (latest stored : ℕ → ℕ) (over : ℕ → ℕ → Mark) (stamp_of : ℕ → ℕ) : Type 0 where
  pub replaced : (j x i : ℕ) → over j x ≡ some i → (i < j) × (j ≤ latest x) × (stamp_of i < stamp_of j)
  pub newest : (x : ℕ) → latest x ≤ seals
  pub present : (x : ℕ) → stored x ≤ seals
  pub older : (j y i : ℕ) → 0 < j → j ≤ seals → In (rd y i) (log (maker j)) → (i < j) × (stamp_of i < stamp_of j)
  pub positive : (j : ℕ) → 0 < j → j ≤ seals → 0 < stamp_of j
  pub opening : stamp_of 0 ≡ 0
  pub stamped : (x : ℕ) → stamp x ≡ stamp_of (stored x)
  pub settled : (x : ℕ) → NoneDue held f x → stored x ≡ latest x
  pub coming : (p x : ℕ) (v : K) (t : ℕ) → held x ≡ by p v → f p ≡ sealing t → stamp_of (latest x) ≡ t

-- logs
pub record Logs {K : Type 0} (held : ℕ → Held K) (f : ℕ → Phase) (current : ℕ → ℕ) (log : ℕ → List Access) (base : ℕ → ℕ) (seals : ℕ)
    (over : ℕ → ℕ → Mark) : Type 0 where
  pub bound : (t : ℕ) (c : Access) → In c (log t) → version c ≤ seals
  pub based : (t : ℕ) → base t ≤ seals
  pub recent : (t x j u i : ℕ) → In (rd x j) (log t) → over u x ≡ some i → j < u → base t < u
  pub has : (p x : ℕ) (v : K) → Live f p → held x ≡ by p v → writes (log (current p)) x ≡ true
  pub had : (p x : ℕ) → Live f p → writes (log (current p)) x ≡ true → (v : K) × (held x ≡ by p v)

-- who certifies holds over versions that were there when it began to
abbrev pub Fixed : {K : Type 0} → (ℕ → Held K) → (ℕ → Phase) → (ℕ → ℕ) → (ℕ → ℕ) → Type 0
Fixed {K} held f latest since = (p y : ℕ) (v : K) → f p ≡ certifying → held y ≡ by p v → latest y ≤ since p

-- a process
pub record Row (K : Type 0) : Type 0 where
  pub seen : ℕ → Seen K
  pub passed : ℕ → Bool
  pub hand : Hand K
  pub clock : ℕ
  pub need : ℕ
  pub log : List Access
  pub base : ℕ
  pub since : ℕ
  pub target : ℕ
  pub start : ℕ
  pub fetched : ℕ

abbrev pub row : {K : Type 0} → State K → History → Ghost → ℕ → Row K
row s a g p =
    record {
      seen = s.seen p;
      passed = s.passed p;
      hand = s.hand p;
      clock = s.clock p;
      need = s.need p;
      log = a.log (a.current p);
      base = a.base (a.current p);
      since = g.since p;
      target = g.target p;
      start = g.start p;
      fetched = a.fetched p;
    }

-- version w is accessed in the log
abbrev pub Met : ℕ → List Access → Type 0
Met w l = (c : Access) × In c l × (version c ≡ w)

-- every version that replaced, directly or not, one that the log has read, is newer than w
abbrev pub Newer : (ℕ → ℕ → Mark) → List Access → ℕ → Type 0
Newer over l w = (x j u i : ℕ) → In (rd x j) l → over u x ≡ some i → j < u → w < u

pub record Proc {K : Type 0} (P : ℕ) (bank stamp stored : ℕ → ℕ) (over : ℕ → ℕ → Mark) (stamp_of : ℕ → ℕ) (seals : ℕ) (r : Row K) : Type 0 where
  pub sees : (x j : ℕ) → In (rd x j) r.log
      → (t : ℕ) × (w : K) × (r.seen x ≡ saw t w) × ((t < stamp x) ⊎ ((t ≡ stamp x) × (stored x ≡ j)))
  pub takes : (x t : ℕ) (v : K) → r.hand ≡ full x t v
      → (t ≡ r.need) × (r.fetched ≡ r.target) × ((t < stamp x) ⊎ ((t ≡ stamp x) × (stored x ≡ r.target)))
  pub needs : r.need ≡ stamp_of r.target
  pub low : r.base ≤ r.since
  pub mid : r.since ≤ seals
  pub high : r.target ≤ r.since
  pub hand_newer : (x t : ℕ) (v : K) (u i : ℕ) → r.hand ≡ full x t v → over u x ≡ some i → r.target < u → r.since < u
  pub within : (c : Access) → In c r.log → version c ≤ r.since
  pub pass_newer : (x j u i : ℕ) → r.passed x ≡ true → In (rd x j) r.log → over u x ≡ some i → j < u → r.since < u
  pub clocked : (r.clock ≤ r.start)
      ⊎ ((w : ℕ) × (r.clock ≡ stamp_of w) × ((w ≡ 0) ⊎ (Met w r.log ⊎ (w ≡ r.target))) × Newer over r.log w)
  pub aimed : r.hand ≡ empty → (r.target ≡ 0) ⊎ Met r.target r.log
  pub ahead : (j : ℕ) → r.base < j → j ≤ seals → r.start < stamp_of j
  pub reached : (y i : ℕ) → In (rd y i) r.log → stamp_of i ≤ r.clock
  pub banked : (q : ℕ) → q < P → r.start ≤ bank q

-- fairness, by stamps
abbrev pub Even : (ℕ → ℕ) → ℕ → List Access → Type 0
Even stamp_of base [] = Unit {0}
Even stamp_of base (rd x j ∷ l) =
    Even stamp_of base l
    × (base < j → ((y : ℕ) → In (rd y j) l → ⊥) → (c : Access) → In c l
    → (version c ≡ 0) ⊎ ((version c ≡ j) ⊎ (stamp_of (version c) < stamp_of j)))
Even stamp_of base (ov x j ∷ l) = Even stamp_of base l

pub record Cons (log : ℕ → List Access) (base stamp_of : ℕ → ℕ) (seals : ℕ) (maker : ℕ → ℕ) (over : ℕ → ℕ → Mark) : Type 0 where
  pub even : (t : ℕ) → Even stamp_of (base t) (log t) → (y v : ℕ) → In (rd y v) (log t) → Newer over (log t) v
  pub whole : (n y v : ℕ) → 0 < n → n ≤ seals → over n y ≡ some v → Newer over (log (maker n)) v

pub record Times (f : ℕ → Phase) (current : ℕ → ℕ) (begun : ℕ) (log : ℕ → List Access) (begun_at : ℕ → ℕ) (ended : ℕ → Mark) (now : ℕ)
    (base : ℕ → ℕ) (seals : ℕ) (maker dawn dusk : ℕ → ℕ) : Type 0 where
  pub dawned : (t : ℕ) → dawn t ≤ seals
  pub dusked : (t : ℕ) → dusk t ≤ seals
  pub begun_at_now : (t : ℕ) → t < begun → begun_at t < now
  pub ended_now : (t n : ℕ) → ended t ≡ some n → n < now
  pub ordered : (t u n : ℕ) → t < begun → ended u ≡ some n → n < begun_at t → dusk u ≤ dawn t
  pub seal_dawn : (j : ℕ) → 0 < j → j ≤ seals → dawn (maker j) < j
  pub seal_dusk : (j n : ℕ) → 0 < j → j ≤ seals → ended (maker j) ≡ some n → j ≤ dusk (maker j)
  pub read_dusk : (t n : ℕ) (c : Access) → ended t ≡ some n → In c (log t) → version c ≤ dusk t
  pub lasted : (t n : ℕ) → ended t ≡ some n → dawn t ≤ dusk t
  pub read_dawn : (t : ℕ) (c : Access) → In c (log t) → dawn t ≤ base t
  pub live_dawn : (p : ℕ) → Live f p → dawn (current p) ≤ base (current p)
  pub going : (p n : ℕ) → (f p ≡ out → ⊥) → ended (current p) ≡ some n → ⊥
  pub unborn : (t n : ℕ) → begun ≤ t → ended t ≡ some n → ⊥

pub record Facts {K : Type 0} (P : ℕ) (s : State K) (a : History) (g : Ghost) : Type 0 where
  pub currents : Who s.phase a.current a.begun a.log a.seals a.maker
  pub vers : Vers s.held s.phase s.stamp a.log a.seals a.maker a.latest a.stored a.over g.stamp_of
  pub logs : Logs s.held s.phase a.current a.log a.base a.seals a.over
  pub fixed : Fixed s.held s.phase a.latest g.since
  pub procs : (p : ℕ) → Live s.phase p → Proc P s.bank s.stamp a.stored a.over g.stamp_of a.seals (row s a g p)
  pub cons : Cons a.log a.base g.stamp_of a.seals a.maker a.over
  pub times : Times s.phase a.current a.begun a.log a.begun_at a.ended a.now a.base a.seals a.maker g.dawn g.dusk
