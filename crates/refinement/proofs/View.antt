-- How the tables of a memory show a state of the protocol.
use Rattle.std.proofs.Common.{◌≡◌, ℕ, ◌*◌, ◌<◌, ◌≤◌, Bool, true, false, ◌⊎◌, List, length, get_or, drop, Some, None, Option, sym, ap, ◌∙◌, subst, inl, inr, arith}
use Rattle.std.proofs.lemmas.Bool.{cases_lt}
use Rattle.std.proofs.lemmas.List.{get_or_past}
use Rattle.std.proofs.lemmas.Bool.Decides.{nat_tests}
use Rattle.tables.specs.Lookup.{pair, value_of}
use Rattle.tables.specs.Tables.{Tables, process_at, object_at, hand_at, read_set, write_set, idle_process}
use Rattle.tables.specs.declared.map.Slot.{Slot}
use Rattle.tables.specs.declared.process.Access.TheVariants as access
use Rattle.tables.specs.declared.process.Ending.{Ending}
use Rattle.tables.specs.declared.process.Ending.TheVariants.{Abort, Withdraw}
use Rattle.tables.specs.declared.process.Phase.{Phase}
use Rattle.tables.specs.declared.process.Phase.TheVariants.{Idle, Beginning, Reading, Writing, Extending, Certifying, Storing, Freeing}
use Rattle.tables.specs.declared.process.Process.{Process}
use Rattle.engine.specs.Look.{foreign, differs}
use Rattle.protocol.specs.Protocol.{State, Held, Seen, Hand, Open, Same, next}
use Rattle.protocol.specs.Protocol.Held.{nobody, by}
use Rattle.protocol.specs.Protocol.Seen.{unseen, saw}
use Rattle.protocol.specs.Protocol.Hand.{empty, full}
use Rattle.protocol.specs.Protocol.Phase.{out, starting, running, certifying, aborting, sealing}
use Rattle.refinement.proofs.Frames.{Frame}
use Rattle.refinement.proofs.Windows.{window}
use Rattle.refinement.proofs.Own.{Good}
use Rattle.refinement.proofs.Rows.{Row, row}

-- how many pairs of the write set are stored or freed already
abbrev pub gone : Phase → ℕ
gone Idle = 0
gone (Beginning next least) = 0
gone (Reading x) = 0
gone (Writing x) = 0
gone (Extending x to next a) = 0
gone (Certifying next) = 0
gone (Storing next) = next
gone (Freeing next ending) = next

-- the pairs of p's write set whose objects p holds
abbrev pub pending_of : {K : Type 0} → Tables K → ℕ → List (Slot K)
pending_of t p = drop (gone (process_at t p).phase) (write_set t p)

-- a holder, with the content that the object is to get
abbrev pub HolderAs : {K : Type 0} → Tables K → ℕ → Option ℕ → Held K → Type 0
HolderAs t x None h = h ≡ nobody
HolderAs {K} t x (Some q) h = (v : K) × (value_of (pending_of t q) x ≡ Some v) × (h ≡ by q v)

-- a stamp in the read set
abbrev pub SeenAs : {K : Type 0} → Option ℕ → Seen K → Type 0
SeenAs None h = h ≡ unseen
SeenAs {K} (Some u) h = (v : K) × (h ≡ saw u v)

-- the first n pairs of the read set have passed a look
abbrev pub PassedTo : List (Slot ℕ) → ℕ → (ℕ → Bool) → Type 0
PassedTo rs n f = (i : ℕ) → i < n → f (get_or rs i (pair 0 0)).object ≡ true

-- a running transaction without a request that has begun
pub record Rests {K : Type 0} (r : Process) (rs : List (Slot ℕ)) (w : Row K) : Type 0 where
  pub phase : w.phase ≡ running
  pub seen : (x : ℕ) → SeenAs (value_of rs x) (w.seen x)
  pub clock : w.clock ≡ r.clock
  pub hand : w.hand ≡ empty
  pub level : w.need ≤ w.clock

-- one whose request needs the clock `to`, with h in hand
pub record Extends {K : Type 0} (r : Process) (rs : List (Slot ℕ)) (to n : ℕ) (h : Hand K) (w : Row K) : Type 0 where
  pub phase : w.phase ≡ running
  pub seen : (x : ℕ) → SeenAs (value_of rs x) (w.seen x)
  pub clock : w.clock ≡ r.clock
  pub hand : w.hand ≡ h
  pub need : w.need ≡ to
  pub later : r.clock < to
  pub passed : PassedTo rs n w.passed

-- one in certification
pub record Certifies {K : Type 0} (r : Process) (rs : List (Slot ℕ)) (n : ℕ) (w : Row K) : Type 0 where
  pub phase : w.phase ≡ certifying
  pub seen : (x : ℕ) → SeenAs (value_of rs x) (w.seen x)
  pub clock : w.clock ≡ r.clock
  pub level : w.need ≤ w.clock
  pub passed : PassedTo rs n w.passed

-- a commit or a withdrawal whose first step is still to come
abbrev pub NotBegun : {K : Type 0} → Process → List (Slot ℕ) → ℕ → Row K → Type 0
NotBegun r rs n w = (r.steps ≡ 0) × (n ≡ 0) × Rests r rs w

abbrev pub FreeingAs : {K : Type 0} → Process → List (Slot ℕ) → ℕ → Ending → Row K → Type 0
FreeingAs r rs n (Abort c) w = w.phase ≡ aborting
FreeingAs r rs n Withdraw w = NotBegun r rs n w ⊎ (w.phase ≡ aborting)

-- the row of a process, by its record, its read set and its hand place; number is the bank's
abbrev pub LiveAs : {K : Type 0} → (ℕ → ℕ) → Process → List (Slot ℕ) → K → Phase → Row K → Type 0
LiveAs number r rs h Idle w = Rests r rs w
LiveAs number r rs h (Beginning next least) w = (w.phase ≡ starting) × ((q : ℕ) → q < next → least ≤ number q) × (r.reads ≡ 0) × (r.writes ≡ 0)
LiveAs number r rs h (Reading x) w = Rests r rs w
LiveAs number r rs h (Writing x) w = Rests r rs w
LiveAs number r rs h (Extending x to next access.Read) w =
    Extends r rs to next (full x to h) w × ((u : ℕ) → value_of rs x ≡ Some u → u ≡ to)
LiveAs number r rs h (Extending x to next access.Write) w = Extends r rs to next empty w
LiveAs number r rs h (Certifying next) w = NotBegun r rs next w ⊎ Certifies r rs next w
LiveAs number r rs h (Storing next) w = w.phase ≡ sealing r.clock
LiveAs number r rs h (Freeing next ending) w = FreeingAs r rs next ending w

abbrev pub RowAs : {K : Type 0} → (ℕ → ℕ) → Process → List (Slot ℕ) → K → Bool → Row K → Type 0
RowAs number r rs h true w = LiveAs number r rs h r.phase w
RowAs number r rs h false w = (w.phase ≡ out) × (r.phase ≡ Idle) × (r.reads ≡ 0) × (r.writes ≡ 0)

pub record View {K : Type 0} (e : K) (number : ℕ → ℕ) (t : Tables K) (s : State K) : Type 0 where
  pub contents : (x : ℕ) → s.content x ≡ (object_at e t x).content
  pub stamps : (x : ℕ) → s.stamp x ≡ (object_at e t x).stamp
  pub held : (x : ℕ) → HolderAs t x (object_at e t x).holder (s.held x)
  pub holds : (p x : ℕ) (v : K) → value_of (pending_of t p) x ≡ Some v → (object_at e t x).holder ≡ Some p
  pub covered : (p x : ℕ) (v : K) → s.phase p ≡ running → s.held x ≡ by p v → (s.stamp x ≤ s.clock p) ⊎ (s.stamp x ≤ s.need p)
  pub rows : (p : ℕ) → RowAs number (process_at t p) (read_set t p) (hand_at e t p) (process_at t p).live (row s p)
  pub bank : (q : ℕ) → s.bank q ≡ number q

-- the bank's numbers grow
live_grows : {K : Type 0} (number larger : ℕ → ℕ) (r : Process) (rs : List (Slot ℕ)) (h : K) (f : Phase) (w : Row K) → ((q : ℕ) → number q ≤ larger q) → LiveAs number r rs h f w → LiveAs larger r rs h f w
live_grows number larger r rs h f w g a = grind arith

row_grows : {K : Type 0} (number larger : ℕ → ℕ) (r : Process) (rs : List (Slot ℕ)) (h : K) (b : Bool) (w : Row K) → ((q : ℕ) → number q ≤ larger q) → RowAs number r rs h b w → RowAs larger r rs h b w
row_grows number larger r rs h true w g a = live_grows number larger r rs h r.phase w g a
row_grows number larger r rs h false w g a = a

-- over equal parts
pub row_at : {K : Type 0} (number : ℕ → ℕ) (r r' : Process) (rs rs' : List (Slot ℕ)) (h h' : K) (w w' : Row K) → r ≡ r' → rs ≡ rs' → h ≡ h' → w ≡ w' → RowAs number r rs h r.live w → RowAs number r' rs' h' r'.live w'
row_at number r r' rs rs' h h' w w' a b c d o =
    let F : Process → Type 0 = λ z. RowAs number z rs h z.live w in
    let G : List (Slot ℕ) → Type 0 = λ z. RowAs number r' z h r'.live w in
    let H : _ → Type 0 = λ z. RowAs number r' rs' z r'.live w in
    let I : Row _ → Type 0 = λ z. RowAs number r' rs' h' r'.live z in
    subst I d (subst H c (subst G b (subst F a o)))

-- counts are within their limits, of processes that are not there too
pub few_reads : {K : Type 0} (e : K) (t : Tables K) (q : ℕ) → Good e t → (process_at t q).reads ≤ 32
few_reads e t q g =
    elim (cases_lt q (length t.processes)) [
      | inl l ↦ (g.owns q l).read_count
      | inr l ↦ (let n = ap (λ (r : Process). r.reads) (get_or_past t.processes q idle_process l) in omega arith)
    ]

pub few_writes : {K : Type 0} (e : K) (t : Tables K) (q : ℕ) → Good e t → (process_at t q).writes ≤ 16
few_writes e t q g =
    elim (cases_lt q (length t.processes)) [
      | inl l ↦ (g.owns q l).write_count
      | inr l ↦ (let n = ap (λ (r : Process). r.writes) (get_or_past t.processes q idle_process l) in omega arith)
    ]

-- the pairs that another process holds
pub other_pending : {K : Type 0} (e : K) (t u : Tables K) (p q : ℕ) → Good e t → Frame t u p → (q ≡ p → ⊥) → pending_of u q ≡ pending_of t q
other_pending e t u p q g f d =
    let r = f.others q d in
    ap (λ (k : Process). drop (gone k.phase) (window u.writes (q * 16) k.writes)) r
    ∙ ap (drop (gone (process_at t q).phase)) (f.other_writes q (process_at t q).writes d (few_writes e t q g))

-- the rows of the other processes
pub other_row : {K : Type 0} (e : K) (number larger : ℕ → ℕ) (t u : Tables K) (s z : State K) (p q : ℕ) → Good e t → View e number t s → Frame t u p → (p ≡ q → ⊥) → row z q ≡ row s q → ((n : ℕ) → number n ≤ larger n)
    → RowAs larger (process_at u q) (read_set u q) (hand_at e u q) (process_at u q).live (row z q)
other_row e number larger t u s z p q g v f d same grows =
    let d' : q ≡ p → ⊥ = λ n. d (sym n) in
    let r = f.others q d' in
    row_grows number larger (process_at u q) (read_set u q) (hand_at e u q) (process_at u q).live (row z q) grows
    (row_at number (process_at t q) (process_at u q) (read_set t q) (read_set u q) (hand_at e t q) (hand_at e u q) (row s q) (row z q)
    (sym r)
    (sym (ap (λ (k : Process). window u.reads (q * 32) k.reads) r ∙ f.other_reads q (process_at t q).reads d' (few_reads e t q g)))
    (sym (f.other_hands q e d'))
    (sym same)
    (v.rows q))

-- who is on record as holder holds
pub holder_of : {K : Type 0} (t : Tables K) (x : ℕ) (o : Option ℕ) (h : Held K) (q : ℕ) (v : K) → HolderAs t x o h → h ≡ by q v → (o ≡ Some q) × (value_of (pending_of t q) x ≡ Some v)
holder_of t x o h q v a b = grind arith

module _ {K : Type 0} (e : K) (number : ℕ → ℕ) (t : Tables K) (s : State K) (v : View e number t s) where
  -- no other process holds
  pub open_to : (p x : ℕ) → foreign (object_at e t x).holder p ≡ false → Open s p x
  open_to p x h q w k = grind arith

  -- what p has seen is the present stamp
  pub same_to : (p x : ℕ) → SeenAs (value_of (read_set t p) x) (s.seen p x) → differs (value_of (read_set t p) x) (object_at e t x).stamp ≡ false → Same s p x
  same_to p x a d u w k = grind arith

  -- p holds an object whose pair is pending
  pub held_mine : (p x : ℕ) (w : K) → value_of (pending_of t p) x ≡ Some w → s.held x ≡ by p w
  held_mine p x w h = go (object_at e t x).holder (v.holds p x w h) (v.held x)
    where
      go : (o : Option ℕ) → o ≡ Some p → HolderAs t x o (s.held x) → s.held x ≡ by p w
      go o n a = grind arith

  -- nobody holds an object that no other process holds and that is not pending
  pub held_nobody : (p x : ℕ) → foreign (object_at e t x).holder p ≡ false → value_of (pending_of t p) x ≡ None → s.held x ≡ nobody
  held_nobody p x f none = grind (arith, nat_tests)
