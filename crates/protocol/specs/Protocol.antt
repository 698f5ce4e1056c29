-- The protocol: what may happen next, and what it changes. A step of a process is one event or a few of them.
use Rattle.std.specs.Prelude.{◌≡◌, ℕ, ◌<◌, ◌≤◌, Bool, true, false, ◌⊎◌, List, [], ◌∷◌, ◌≢◌}
use Rattle.protocol.specs.Table.{put}

-- who holds an object, with the content that it is to get
pub data Held (K : Type 0) : Type 0 where
  nobody : Held K
  by : ℕ → K → Held K

-- what a transaction has seen of an object: a stamp and a content
pub data Seen (K : Type 0) : Type 0 where
  unseen : Seen K
  saw : ℕ → K → Seen K

-- what a read has taken and not yet answered: an object, its stamp, its content
pub data Hand (K : Type 0) : Type 0 where
  empty : Hand K
  full : ℕ → ℕ → K → Hand K

-- where a process stands: no transaction, its begin unanswered, running, in certification, closing (in conflict, or committed with nothing written), sealed with a stamp
pub data Phase : Type 0 where
  out starting running certifying aborting : Phase
  sealing : ℕ → Phase

-- why a transaction is given up: an object is held by another, or has changed; no stamp is left; it is withdrawn
pub data Cause : Type 0 where
  busy stale : ℕ → Cause
  spent withdrawn : Cause

pub record State (K : Type 0) : Type 0 where
  -- of an object
  pub content : ℕ → K
  pub stamp : ℕ → ℕ
  pub held : ℕ → Held K
  -- of a process
  pub phase : ℕ → Phase
  pub seen : ℕ → ℕ → Seen K
  -- the objects of the read set that were looked at again, since the last look of a read or write, or in certification
  pub passed : ℕ → ℕ → Bool
  pub hand : ℕ → Hand K
  pub clock : ℕ → ℕ
  -- the clock that the request in hand needs
  pub need : ℕ → ℕ
  -- the bank's number for a process
  pub bank : ℕ → ℕ

pub data Event (K : Type 0) : Type 0 where
  begin : ℕ → Event K
  ready : ℕ → ℕ → Event K
  look : ℕ → ℕ → K → Event K
  check : ℕ → ℕ → Event K
  extend : ℕ → Event K
  answer : ℕ → ℕ → ℕ → K → Event K
  own : ℕ → ℕ → K → Event K
  write : ℕ → ℕ → K → Event K
  certify : ℕ → Event K
  pass : ℕ → ℕ → Event K
  seal : ℕ → ℕ → (ℕ → ℕ) → Event K
  finish : ℕ → Event K
  move : (ℕ → ℕ) → Event K
  store : ℕ → ℕ → K → ℕ → Event K
  fail : ℕ → Cause → Event K
  free : ℕ → ℕ → K → Event K
  commit : ℕ → ℕ → Event K
  close : ℕ → Event K

module _ {K : Type 0} where
  -- no process but p holds x
  abbrev pub Open : State K → ℕ → ℕ → Type 0
  Open s p x = (q : ℕ) (w : K) → s.held x ≡ by q w → q ≡ p

  -- p has seen no other stamp of x than the present one
  abbrev pub Same : State K → ℕ → ℕ → Type 0
  Same s p x = (t : ℕ) (w : K) → s.seen p x ≡ saw t w → t ≡ s.stamp x

  -- p holds nothing
  abbrev pub Empty : State K → ℕ → Type 0
  Empty s p = (x : ℕ) (w : K) → s.held x ≢ by p w

  -- p runs and has no request in hand
  pub record Idle (s : State K) (p : ℕ) : Type 0 where
    pub runs : s.phase p ≡ running
    pub done : s.hand p ≡ empty
    pub level : s.need p ≤ s.clock p

  -- all that p has seen was looked at again
  abbrev pub Passed : State K → ℕ → Type 0
  Passed s p = (x t : ℕ) (w : K) → s.seen p x ≡ saw t w → s.passed p x ≡ true

  -- when a cause stands
  abbrev pub Why : State K → ℕ → Cause → Type 0
  Why s p (busy x) = (q : ℕ) × (w : K) × (s.held x ≡ by q w) × (q ≢ p)
  Why s p (stale x) = (t : ℕ) × (w : K) × (s.seen p x ≡ saw t w) × (t ≢ s.stamp x)
  Why s p spent = s.phase p ≡ certifying
  Why s p withdrawn = Idle s p

  -- when an event may happen, with P processes
  abbrev pub May : ℕ → State K → Event K → Type 0
  May P s (begin p) = s.phase p ≡ out
  May P s (ready p c) = (s.phase p ≡ starting) × ((q : ℕ) → q < P → c ≤ s.bank q)
  May P s (look p x v) = Idle s p × (s.held x ≡ nobody) × Same s p x × (s.content x ≡ v)
  May P s (check p x) = (s.phase p ≡ running) × Open s p x × Same s p x
  May P s (extend p) = (s.phase p ≡ running) × (s.clock p < s.need p) × Passed s p
  May P s (answer p x t v) = (s.phase p ≡ running) × (s.hand p ≡ full x t v) × (s.need p ≤ s.clock p)
  May P s (own p x v) = Idle s p × (s.held x ≡ by p v)
  May P s (write p x v) = Idle s p × Open s p x
  May P s (certify p) = Idle s p
  May P s (pass p x) = (s.phase p ≡ certifying) × Open s p x × Same s p x
  May P s (seal p t b) =
      (s.phase p ≡ certifying) × Passed s p × (s.clock p < t) × (s.bank p < t) × (p < P) × ((q : ℕ) → s.bank q ≤ b q)
  May P s (finish p) = (s.phase p ≡ certifying) × Passed s p × Empty s p
  May P s (move b) = (q : ℕ) → s.bank q ≤ b q
  May P s (store p x v t) = (s.phase p ≡ sealing t) × (s.held x ≡ by p v)
  May P s (fail p r) = ((s.phase p ≡ running) ⊎ (s.phase p ≡ certifying)) × Why s p r
  May P s (free p x v) = (s.phase p ≡ aborting) × (s.held x ≡ by p v)
  May P s (commit p t) = (s.phase p ≡ sealing t) × Empty s p
  May P s (close p) = (s.phase p ≡ aborting) × Empty s p

  -- p comes into another phase
  abbrev pub turn : State K → ℕ → Phase → State K
  turn s p f =
      record {
        content = s.content;
        stamp = s.stamp;
        held = s.held;
        phase = put s.phase p f;
        seen = s.seen;
        passed = s.passed;
        hand = s.hand;
        clock = s.clock;
        need = s.need;
        bank = s.bank;
      }

  -- what an event changes
  abbrev pub next : State K → Event K → State K
  next s (begin p) = turn s p starting
  next s (ready p c) =
      record {
        content = s.content;
        stamp = s.stamp;
        held = s.held;
        phase = put s.phase p running;
        seen = put s.seen p (λ x. unseen);
        passed = s.passed;
        hand = put s.hand p empty;
        clock = put s.clock p c;
        need = put s.need p 0;
        bank = s.bank;
      }
  next s (look p x v) =
      record {
        content = s.content;
        stamp = s.stamp;
        held = s.held;
        phase = s.phase;
        seen = s.seen;
        passed = put s.passed p (λ y. false);
        hand = put s.hand p (full x (s.stamp x) v);
        clock = s.clock;
        need = put s.need p (s.stamp x);
        bank = s.bank;
      }
  next s (check p x) =
      record {
        content = s.content;
        stamp = s.stamp;
        held = s.held;
        phase = s.phase;
        seen = s.seen;
        passed = put s.passed p (put (s.passed p) x true);
        hand = s.hand;
        clock = s.clock;
        need = s.need;
        bank = s.bank;
      }
  next s (extend p) =
      record {
        content = s.content;
        stamp = s.stamp;
        held = s.held;
        phase = s.phase;
        seen = s.seen;
        passed = s.passed;
        hand = s.hand;
        clock = put s.clock p (s.need p);
        need = s.need;
        bank = s.bank;
      }
  next s (answer p x t v) =
      record {
        content = s.content;
        stamp = s.stamp;
        held = s.held;
        phase = s.phase;
        seen = put s.seen p (put (s.seen p) x (saw t v));
        passed = s.passed;
        hand = put s.hand p empty;
        clock = s.clock;
        need = s.need;
        bank = s.bank;
      }
  next s (own p x v) = s
  next s (write p x v) =
      record {
        content = s.content;
        stamp = s.stamp;
        held = put s.held x (by p v);
        phase = s.phase;
        seen = s.seen;
        passed = put s.passed p (λ y. false);
        hand = s.hand;
        clock = s.clock;
        need = put s.need p (s.stamp x);
        bank = s.bank;
      }
  next s (certify p) =
      record {
        content = s.content;
        stamp = s.stamp;
        held = s.held;
        phase = put s.phase p certifying;
        seen = s.seen;
        passed = put s.passed p (λ y. false);
        hand = s.hand;
        clock = s.clock;
        need = s.need;
        bank = s.bank;
      }
  next s (pass p x) =
      record {
        content = s.content;
        stamp = s.stamp;
        held = s.held;
        phase = s.phase;
        seen = s.seen;
        passed = put s.passed p (put (s.passed p) x true);
        hand = s.hand;
        clock = s.clock;
        need = s.need;
        bank = s.bank;
      }
  next s (seal p t b) =
      record {
        content = s.content;
        stamp = s.stamp;
        held = s.held;
        phase = put s.phase p (sealing t);
        seen = s.seen;
        passed = s.passed;
        hand = s.hand;
        clock = s.clock;
        need = s.need;
        bank = b;
      }
  next s (finish p) = turn s p aborting
  next s (move b) =
      record {
        content = s.content;
        stamp = s.stamp;
        held = s.held;
        phase = s.phase;
        seen = s.seen;
        passed = s.passed;
        hand = s.hand;
        clock = s.clock;
        need = s.need;
        bank = b;
      }
  next s (store p x v t) =
      record {
        content = put s.content x v;
        stamp = put s.stamp x t;
        held = put s.held x nobody;
        phase = s.phase;
        seen = s.seen;
        passed = s.passed;
        hand = s.hand;
        clock = s.clock;
        need = s.need;
        bank = s.bank;
      }
  next s (fail p r) = turn s p aborting
  next s (free p x v) =
      record {
        content = s.content;
        stamp = s.stamp;
        held = put s.held x nobody;
        phase = s.phase;
        seen = s.seen;
        passed = s.passed;
        hand = s.hand;
        clock = s.clock;
        need = s.need;
        bank = s.bank;
      }
  next s (commit p t) = turn s p out
  next s (close p) = turn s p out

  -- a fresh memory; its contents and the bank's numbers are free
  abbrev pub fresh : (ℕ → K) → (ℕ → ℕ) → State K
  fresh opening b =
      record {
        content = opening;
        stamp = λ x. 0;
        held = λ x. nobody;
        phase = λ p. out;
        seen = λ p x. unseen;
        passed = λ p x. false;
        hand = λ p. empty;
        clock = λ p. 0;
        need = λ p. 0;
        bank = b;
      }

  -- the state after a block of events, the newest first
  abbrev pub states : State K → List (Event K) → State K
  states s [] = s
  states s (e ∷ es) = next (states s es) e

  -- each event of the block is allowed in the state that it finds
  abbrev pub LawfulFrom : ℕ → State K → List (Event K) → Type 0
  LawfulFrom P s [] = Unit {0}
  LawfulFrom P s (e ∷ es) = LawfulFrom P s es × May P (states s es) e

  -- a run is a block of events from a fresh memory
  abbrev pub state : (ℕ → K) → (ℕ → ℕ) → List (Event K) → State K
  state opening b es = states (fresh opening b) es

  abbrev pub Lawful : ℕ → (ℕ → K) → (ℕ → ℕ) → List (Event K) → Type 0
  Lawful P opening b es = LawfulFrom P (fresh opening b) es
