-- A call of one process leaves the others' records and sets as they are.
use Rattle.std.proofs.Common.{◌≡◌, ℕ, ◌+◌, ◌*◌, ◌<◌, ◌≤◌, Bool, true, ◌&&◌, eqb, ◌⊎◌, List, length, get_or, set, sym, refl, ap, ◌∙◌, subst, inl, inr, add-mul, one-mul, arith}
use Rattle.std.proofs.lemmas.Nat.{mul-le}
use Rattle.std.proofs.lemmas.Bool.{cases_lt, cases_eq}
use Rattle.std.proofs.lemmas.List.{get_or-set_same, get_or-set_other, length-set}
use Rattle.tables.specs.Tables.{Tables, process_at, with_process, with_object, with_read, with_write, with_hand, idle_process, blank_object, sizes_ok, numbers_ok}
use Rattle.tables.specs.Lookup.{pair}
use Rattle.tables.specs.declared.map.Slot.{Slot}
use Rattle.tables.specs.declared.memory.Object.{Object}
use Rattle.tables.specs.declared.process.Process.{Process}
use Rattle.engine.specs.Ends.{ended}
use Rattle.engine.specs.Outcome.{closed}
use Rattle.engine.specs.Sound.{object_ok}
use Rattle.refinement.proofs.Sets.{ObjectsOk}
use Rattle.refinement.proofs.Own.{Own, OwnOf, Good}
use Rattle.refinement.proofs.Windows.{window, window_set, window_wiped, wiped_length}

pub record Frame {K : Type 0} (t u : Tables K) (p : ℕ) : Type 0 where
  pub processes : length u.processes ≡ length t.processes
  pub objects : length u.objects ≡ length t.objects
  pub reads : length u.reads ≡ length t.reads
  pub writes : length u.writes ≡ length t.writes
  pub hands : length u.hands ≡ length t.hands
  pub others : (q : ℕ) → (q ≡ p → ⊥) → process_at u q ≡ process_at t q
  pub other_reads : (q n : ℕ) → (q ≡ p → ⊥) → n ≤ 32 → window u.reads (q * 32) n ≡ window t.reads (q * 32) n
  pub other_writes : (q n : ℕ) → (q ≡ p → ⊥) → n ≤ 16 → window u.writes (q * 16) n ≡ window t.writes (q * 16) n
  pub other_hands : (q : ℕ) (d : K) → (q ≡ p → ⊥) → get_or u.hands q d ≡ get_or t.hands q d

unit_more : (a b : ℕ) → (a + 1) * b ≡ a * b + b
unit_more a b = add-mul a 1 b ∙ ap (λ (c : ℕ). a * b + c) (one-mul b)

scaled : (a b c : ℕ) → a ≤ b → a * c ≤ b * c
scaled a b c h = mul-le a c b c h (omega arith)

strict : {p q : ℕ} → (q ≡ p → ⊥) → q ≤ p → q < p
strict d h = omega arith

module _ {K : Type 0} (t : Tables K) (p : ℕ) where
  pub frame_process : (r : Process) → Frame t (with_process t p r) p
  frame_process r =
      record {
        processes = length-set t.processes p r;
        objects = refl;
        reads = refl;
        writes = refl;
        hands = refl;
        others = λ q n. get_or-set_other t.processes p q r idle_process n;
        other_reads = λ q n d l. refl;
        other_writes = λ q n d l. refl;
        other_hands = λ q d n. refl;
      }

  pub frame_object : (x : ℕ) (o : Object K) → Frame t (with_object t x o) p
  frame_object x o =
      record {
        processes = refl;
        objects = length-set t.objects x o;
        reads = refl;
        writes = refl;
        hands = refl;
        others = λ q n. refl;
        other_reads = λ q n d l. refl;
        other_writes = λ q n d l. refl;
        other_hands = λ q d n. refl;
      }

  pub frame_hand : (v : K) → Frame t (with_hand t p v) p
  frame_hand v =
      record {
        processes = refl;
        objects = refl;
        reads = refl;
        writes = refl;
        hands = length-set t.hands p v;
        others = λ q n. refl;
        other_reads = λ q n d l. refl;
        other_writes = λ q n d l. refl;
        other_hands = λ q d n. get_or-set_other t.hands p q v d n;
      }

  -- stretches of w places: place i of p lies outside that of q
  outside : (w q n i : ℕ) → (q ≡ p → ⊥) → n ≤ w → i < w → (p * w + i < q * w) ⊎ (q * w + n ≤ p * w + i)
  outside w q n i d l h =
      elim (cases_lt p q) [
        | inl a ↦ inl (let m : (p + 1) * w ≤ q * w = scaled (p + 1) q w (omega arith) in let e : (p + 1) * w ≡ p * w + w = unit_more p w in omega arith)
        | inr a ↦ inr (let b : q < p = omega arith in let m : (q + 1) * w ≤ p * w = scaled (q + 1) p w (omega arith) in let e : (q + 1) * w ≡ q * w + w = unit_more q w in omega arith)
      ]

  pub frame_read : (i : ℕ) (s : Slot ℕ) → i < 32 → Frame t (with_read t p i s) p
  frame_read i s h =
      record {
        processes = refl;
        objects = refl;
        reads = length-set t.reads (p * 32 + i) s;
        writes = refl;
        hands = refl;
        others = λ q n. refl;
        other_reads = λ q n d l. window_set t.reads (q * 32) n (p * 32 + i) s (outside 32 q n i d l h);
        other_writes = λ q n d l. refl;
        other_hands = λ q d n. refl;
      }

  pub frame_write : (i : ℕ) (s : Slot K) → i < 16 → Frame t (with_write t p i s) p
  frame_write i s h =
      record {
        processes = refl;
        objects = refl;
        reads = refl;
        writes = length-set t.writes (p * 16 + i) s;
        hands = refl;
        others = λ q n. refl;
        other_reads = λ q n d l. refl;
        other_writes = λ q n d l. window_set t.writes (q * 16) n (p * 16 + i) s (outside 16 q n i d l h);
        other_hands = λ q d n. refl;
      }

  pub frame_ended : (e : K) → p < length t.processes → length t.reads ≡ length t.processes * 32 → length t.writes ≡ length t.processes * 16 → Frame t (ended e t p) p
  frame_ended e h lr lw =
      let fr : p * 32 + 32 ≤ length t.reads = omega arith in
      let fw : p * 16 + 16 ≤ length t.writes = omega arith in
      record {
        processes = length-set t.processes p (closed (process_at t p));
        objects = refl;
        reads = wiped_length t.reads (p * 32) 32 (pair 0 0) fr;
        writes = wiped_length t.writes (p * 16) 16 (pair 0 e) fw;
        hands = length-set t.hands p e;
        others = λ q n. get_or-set_other t.processes p q (closed (process_at t p)) idle_process n;
        other_reads = λ q n d l. window_wiped t.reads (q * 32) n (p * 32) 32 (pair 0 0) fr (elim (cases_lt p q) [ inl a ↦ inr (omega arith) | inr a ↦ inl (let b : q < p = strict d a in omega arith) ]);
        other_writes = λ q n d l. window_wiped t.writes (q * 16) n (p * 16) 16 (pair 0 e) fw (elim (cases_lt p q) [ inl a ↦ inr (omega arith) | inr a ↦ inl (let b : q < p = strict d a in omega arith) ]);
        other_hands = λ q d n. get_or-set_other t.hands p q e d n;
      }

-- two changes by one process
pub frame_both : {K : Type 0} (t u v : Tables K) (p : ℕ) → Frame t u p → Frame u v p → Frame t v p
frame_both t u v p f g =
    record {
      processes = g.processes ∙ f.processes;
      objects = g.objects ∙ f.objects;
      reads = g.reads ∙ f.reads;
      writes = g.writes ∙ f.writes;
      hands = g.hands ∙ f.hands;
      others = λ q d. g.others q d ∙ f.others q d;
      other_reads = λ q n d l. g.other_reads q n d l ∙ f.other_reads q n d l;
      other_writes = λ q n d l. g.other_writes q n d l ∙ f.other_writes q n d l;
      other_hands = λ q d n. g.other_hands q d n ∙ f.other_hands q d n;
    }

-- facts over equal parts
pub own_at : {K : Type 0} (P P' N N' : ℕ) (r r' : Process) (rs rs' : List (Slot ℕ)) (ws ws' : List (Slot K)) → P ≡ P' → N ≡ N' → r ≡ r' → rs ≡ rs' → ws ≡ ws' → OwnOf P N r rs ws → OwnOf P' N' r' rs' ws'
own_at P P' N N' r r' rs rs' ws ws' a b c d f o = grind arith

-- another process keeps what soundness says of it
pub other_own : {K : Type 0} (t u : Tables K) (p q : ℕ) → Frame t u p → (q ≡ p → ⊥) → Own t q → Own u q
other_own t u p q f d o = grind arith

-- the record of p is r: its own facts over the windows that r's counts give
pub own_with : {K : Type 0} (t : Tables K) (p : ℕ) (r : Process) → p < length t.processes → OwnOf (length t.processes) (length t.objects) r (window t.reads (p * 32) r.reads) (window t.writes (p * 16) r.writes) → Own (with_process t p r) p
own_with t p r h o =
    let e : process_at (with_process t p r) p ≡ r = get_or-set_same t.processes p r idle_process h in
    own_at _ _ _ _ _ _ _ _ _ _ (sym (length-set t.processes p r)) refl (sym e)
    (ap (λ (z : Process). window t.reads (p * 32) z.reads) (sym e))
    (ap (λ (z : Process). window t.writes (p * 16) z.writes) (sym e))
    o

-- the sizes depend on the lengths alone
abbrev sized_by : ℕ → ℕ → ℕ → ℕ → ℕ → Bool
sized_by o p r w h = numbers_ok o p && eqb r (p * 32) && eqb w (p * 16) && eqb h p

pub sizes_kept : {K : Type 0} (t u : Tables K) (p : ℕ) → Frame t u p → sizes_ok t ≡ true → sizes_ok u ≡ true
sizes_kept t u p f h = cc

pub objects_kept : {K : Type 0} (e : K) (os : List (Object K)) (n x : ℕ) (o : Object K) → ObjectsOk e os n → object_ok o n ≡ true → ObjectsOk e (set os x o) n
objects_kept e os n x o ok h y l =
    let l' : y < length os = subst (λ (k : ℕ). y < k) (length-set os x o) l in
    elim (cases_eq y x) [
      | inl a ↦ ap (λ (z : Object _). object_ok z n) (ap (λ (k : ℕ). get_or (set os x o) k (blank_object e)) a ∙ get_or-set_same os x o (blank_object e) (subst (λ (k : ℕ). k < length os) a l')) ∙ h
      | inr a ↦ ap (λ (z : Object _). object_ok z n) (get_or-set_other os x y o (blank_object e) a) ∙ ok y l'
    ]

-- a call of p that keeps the objects in range and p's own facts keeps all
pub keeps : {K : Type 0} (e : K) (t u : Tables K) (p : ℕ) → Good e t → Frame t u p → ObjectsOk e u.objects (length t.processes) → Own u p → Good e u
keeps e t u p g f ok o =
    record {
      sizes = sizes_kept t u p f g.sizes;
      objects = subst (λ (n : ℕ). ObjectsOk e u.objects n) (sym f.processes) ok;
      owns = λ q l. elim (cases_eq q p) [
        | inl a ↦ subst (λ (k : ℕ). Own u k) (sym a) o
        | inr d ↦ other_own t u p q f d (g.owns q (subst (λ (n : ℕ). q < n) f.processes l))
      ];
    }
