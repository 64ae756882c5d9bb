-- The central lemma: pushes lower SP and leave the registers in memory; pops from any state with these bytes bring them back.
use Rattle.std.proofs.Common.{◌≡◌, ℕ, ◌+◌, ◌-◌, ◌%◌, ◌^◌, ◌<◌, ◌≤◌, true, ◌&&◌, eqb, leb, ◌⊎◌, List, [], ◌∷◌, sym, refl, ap, ◌∙◌, subst, ap₂, inl, inr, mod-eq_of_lt, arith}
use Rattle.std.proofs.lemmas.Bool.Decides.{nat_tests}
use Rattle.machine.specs.Machine.{Mem, State, Core, put, load, store, store2, all_mapped, plus, minus, read_z, with_sp, with_mem, with_v, write_z, next, only, reach, step}
use Rattle.layout.specs.Slots.{Slot, pair_x, one_x, pair_d, one_d, one_q}
use Rattle.frame.specs.Pieces.{push, pop}
use Rattle.returns.proofs.Frames.{pushes, pops, bytes}
use Rattle.returns.proofs.Owed.{InX, InLo, InHi, Any, Wide, AllWide, Good, GoodAll}
use Rattle.returns.proofs.Mem.{put_keep, put_set, store_below, store_above, load_agree, load_same, load_disjoint, mapped_all}
use Rattle.returns.proofs.Line.{Line, line-++, line_one}

-- 64-bit arithmetic that does not wrap
pub minus_exact : (a b : ℕ) → b ≤ a → a < 2 ^ 64 → minus a b ≡ a - b
unfolding minus
minus_exact a b h l = omega arith

pub plus_exact : (a b : ℕ) → a + b < 2 ^ 64 → plus a b ≡ a + b
unfolding plus
plus_exact a b h = omega arith

-- An access through SP succeeds.
leb_le : (a b : ℕ) → a ≤ b → leb a b ≡ true
leb_le a b h = grind (arith, nat_tests)

pub reach_sp : (s : State) (n a : ℕ) → s.sp % 16 ≡ 0 → a + n ≤ 2 ^ 64 → ((b : ℕ) → a ≤ b → b < a + n → s.mapped b ≡ true) → reach s 31 n a ≡ true
reach_sp s n a al top h =
    ap (λ z. z && leb (a + n) (2 ^ 64) && all_mapped n a s.mapped) (ap (λ z. eqb z 0) al)
    ∙ ap₂ (λ u w. u && w) (leb_le (a + n) (2 ^ 64) top) (mapped_all n a s.mapped h)

-- what a push writes
abbrev pub saved_mem : Slot → State → ℕ → Mem
saved_mem (pair_x t u) s a = store2 a (read_z s t) (read_z s u) s.mem
saved_mem (one_x t) s a = store 8 a (read_z s t) s.mem
saved_mem (pair_d t u) s a = store2 a (s.lo t) (s.lo u) s.mem
saved_mem (one_d t) s a = store 8 a (s.lo t) s.mem
saved_mem (one_q t) s a = store2 a (s.lo t) (s.hi t) s.mem

abbrev pub width : Slot → ℕ
width (pair_x t u) = 16
width (one_x t) = 8
width (pair_d t u) = 16
width (one_d t) = 8
width (one_q t) = 16

width_le : (σ : Slot) → width σ ≤ 16
width_le (pair_x t u) = omega arith
width_le (one_x t) = omega arith
width_le (pair_d t u) = omega arith
width_le (one_d t) = omega arith
width_le (one_q t) = omega arith

push_step : (k : Core) (σ : Slot) (s : State) → step k (push σ) s ≡ only (reach s 31 (width σ) (minus s.sp 16)) (next (with_sp (minus s.sp 16) (with_mem (saved_mem σ s (minus s.sp 16)) s)))
unfolding step
push_step k (pair_x t u) s = refl
push_step k (one_x t) s = refl
push_step k (pair_d t u) s = refl
push_step k (one_d t) s = refl
push_step k (one_q t) s = refl

-- A push through SP, at an address a that is 16 below it.
pub push_one : (k : Core) (σ : Slot) (s : State) (a : ℕ) → a + 16 ≡ s.sp → s.sp % 16 ≡ 0 → s.sp < 2 ^ 64
    → ((b : ℕ) → a ≤ b → b < a + 16 → s.mapped b ≡ true)
    → step k (push σ) s ≡ next (with_sp a (with_mem (saved_mem σ s a) s))
push_one k σ s a ha al hs hm =
    let m : minus s.sp 16 ≡ a = minus_exact s.sp 16 (omega arith) hs ∙ omega arith in
    let w = width_le σ in
    push_step k σ s
    ∙ ap (λ z. only (reach s 31 (width σ) z) (next (with_sp z (with_mem (saved_mem σ s z) s)))) m
    ∙ ap (λ g. only g (next (with_sp a (with_mem (saved_mem σ s a) s)))) (reach_sp s (width σ) a al (omega arith) (λ b l u. hm b l (omega arith)))

-- Integer registers that are no register 31.
abbrev pub Below : Slot → Type 0
Below (pair_x t u) = (t < 31) × (u < 31)
Below (one_x t) = t < 31
Below (pair_d t u) = (t < 32) × (u < 32)
Below (one_d t) = t < 32
Below (one_q t) = t < 32

good_below : (σ : Slot) → Good σ → Below σ
good_below (pair_x t u) g = (omega (arith, g.0.0), omega (arith, g.1.0))
good_below (one_x t) g = omega (arith, g.0)
good_below (pair_d t u) g = g
good_below (one_d t) g = g
good_below (one_q t) g = g

-- The 16 bytes from a hold e's registers.
abbrev pub Holds : State → Slot → ℕ → Mem → Type 0
Holds e (pair_x t u) a m = (load 8 a m ≡ e.x t) × (load 8 (a + 8) m ≡ e.x u)
Holds e (one_x t) a m = load 8 a m ≡ e.x t
Holds e (pair_d t u) a m = (load 8 a m ≡ e.lo t) × (load 8 (a + 8) m ≡ e.lo u)
Holds e (one_d t) a m = load 8 a m ≡ e.lo t
Holds e (one_q t) a m = (load 8 a m ≡ e.lo t) × (load 8 (a + 8) m ≡ e.hi t)

abbrev pub HoldsAll : State → List Slot → ℕ → Mem → Type 0
HoldsAll e [] a m = Unit {0}
HoldsAll e (σ ∷ R) a m = Holds e σ a m × HoldsAll e R (a + 16) m

-- s has e's registers
pub record Same (s e : State) : Type 0 where
  pub x : s.x ≡ e.x
  pub lo : s.lo ≡ e.lo
  pub hi : s.hi ≡ e.hi
  pub mapped : s.mapped ≡ e.mapped

holds_same : (s e : State) (σ : Slot) (a : ℕ) (m : Mem) → Same s e → Holds s σ a m → Holds e σ a m
holds_same s e (pair_x t u) a m q h = (h.0 ∙ ap (λ f. f t) q.x, h.1 ∙ ap (λ f. f u) q.x)
holds_same s e (one_x t) a m q h = h ∙ ap (λ f. f t) q.x
holds_same s e (pair_d t u) a m q h = (h.0 ∙ ap (λ f. f t) q.lo, h.1 ∙ ap (λ f. f u) q.lo)
holds_same s e (one_d t) a m q h = h ∙ ap (λ f. f t) q.lo
holds_same s e (one_q t) a m q h = (h.0 ∙ ap (λ f. f t) q.lo, h.1 ∙ ap (λ f. f t) q.hi)

abbrev pub Agree : ℕ → ℕ → Mem → Mem → Type 0
Agree a n m m' = (b : ℕ) → a ≤ b → b < a + n → m b ≡ m' b

pub part_of : (a n c k : ℕ) (m m' : Mem) → a ≤ c → c + k ≤ a + n → Agree a n m m' → Agree c k m m'
part_of a n c k m m' h l g = λ b p q. g b (omega arith) (omega arith)

pub load_of : (a n c : ℕ) (m m' : Mem) (v : ℕ) → a ≤ c → c + 8 ≤ a + n → Agree a n m m' → load 8 c m ≡ v → load 8 c m' ≡ v
load_of a n c m m' v h l g e = sym (load_agree 8 c m m' (part_of a n c 8 m m' h l g)) ∙ e

pub holds_agree : (e : State) (σ : Slot) (a : ℕ) (m m' : Mem) → Agree a 16 m m' → Holds e σ a m → Holds e σ a m'
holds_agree e (pair_x t u) a m m' g h = (load_of a 16 a m m' _ (omega arith) (omega arith) g h.0, load_of a 16 (a + 8) m m' _ (omega arith) (omega arith) g h.1)
holds_agree e (one_x t) a m m' g h = load_of a 16 a m m' _ (omega arith) (omega arith) g h
holds_agree e (pair_d t u) a m m' g h = (load_of a 16 a m m' _ (omega arith) (omega arith) g h.0, load_of a 16 (a + 8) m m' _ (omega arith) (omega arith) g h.1)
holds_agree e (one_d t) a m m' g h = load_of a 16 a m m' _ (omega arith) (omega arith) g h
holds_agree e (one_q t) a m m' g h = (load_of a 16 a m m' _ (omega arith) (omega arith) g h.0, load_of a 16 (a + 8) m m' _ (omega arith) (omega arith) g h.1)

pub all_agree : (e : State) (R : List Slot) (a : ℕ) (m m' : Mem) → Agree a (bytes R) m m' → HoldsAll e R a m → HoldsAll e R a m'
all_agree e [] a m m' g h = tt
all_agree e (σ ∷ R) a m m' g h = (
  holds_agree e σ a m m' (part_of a (16 + bytes R) a 16 m m' (omega arith) (omega arith) g) h.0,
  all_agree e R (a + 16) m m' (part_of a (16 + bytes R) (a + 16) (bytes R) m m' (omega arith) (omega arith) g) h.1,
)

word_back : (a v : ℕ) (m : Mem) → v < 2 ^ 64 → load 8 a (store 8 a v m) ≡ v
word_back a v m h = load_same 8 a v m ∙ mod-eq_of_lt h

pub pair_low : (a v w : ℕ) (m : Mem) → v < 2 ^ 64 → load 8 a (store2 a v w m) ≡ v
pair_low a v w m h = load_disjoint 8 a 8 (a + 8) w (store 8 a v m) (inl (omega arith)) ∙ word_back a v m h

pub pair_high : (a v w : ℕ) (m : Mem) → w < 2 ^ 64 → load 8 (a + 8) (store2 a v w m) ≡ w
pair_high a v w m h = word_back (a + 8) w (store 8 a v m) h

-- A register below 31 reads as itself, and is a word.
pub read_z_x : (s : State) (r : ℕ) → r < 31 → read_z s r ≡ s.x r
read_z_x s r h = grind (arith, nat_tests)

-- The registers that count are words.
pub record WordsAt (X : ℕ → Type 0) (e : State) : Type 0 where
  pub x : (r : ℕ) → X r → e.x r < 2 ^ 64
  pub lo : (r : ℕ) → r < 32 → e.lo r < 2 ^ 64
  pub hi : (r : ℕ) → r < 32 → e.hi r < 2 ^ 64

read_z_word : (s : State) (r : ℕ) → r < 31 → s.x r < 2 ^ 64 → read_z s r < 2 ^ 64
read_z_word s r h w = subst (λ z. z < 2 ^ 64) (sym (read_z_x s r h)) w

pub saved_holds : (s : State) (σ : Slot) (a : ℕ) → WordsAt (InX σ) s → Below σ → Holds s σ a (saved_mem σ s a)
saved_holds s (pair_x t u) a w g = (
  pair_low a _ _ _ (read_z_word s t g.0 (w.x t (inl refl))) ∙ read_z_x s t g.0,
  pair_high a _ _ _ (read_z_word s u g.1 (w.x u (inr refl))) ∙ read_z_x s u g.1,
)
saved_holds s (one_x t) a w g = word_back a _ _ (read_z_word s t g (w.x t refl)) ∙ read_z_x s t g
saved_holds s (pair_d t u) a w g = (pair_low a _ _ _ (w.lo t g.0), pair_high a _ _ _ (w.lo u g.1))
saved_holds s (one_d t) a w g = word_back a _ _ (w.lo t g)
saved_holds s (one_q t) a w g = (pair_low a _ _ _ (w.lo t g), pair_high a _ _ _ (w.hi t g))

store_outside : (n a v : ℕ) (m : Mem) (b : ℕ) → (b < a) ⊎ (a + n ≤ b) → store n a v m b ≡ m b
store_outside n a v m b (inl h) = store_below n a v m b h
store_outside n a v m b (inr h) = store_above n a v m b h

one_outside : (a v : ℕ) (m : Mem) (b : ℕ) → (b < a) ⊎ (a + 16 ≤ b) → store 8 a v m b ≡ m b
one_outside a v m b (inl h) = store_below 8 a v m b h
one_outside a v m b (inr h) = store_above 8 a v m b (omega arith)

pub two_outside : (a v w : ℕ) (m : Mem) (b : ℕ) → (b < a) ⊎ (a + 16 ≤ b) → store2 a v w m b ≡ m b
two_outside a v w m b (inl h) = store_below 8 (a + 8) w _ b (omega arith) ∙ store_below 8 a v m b h
two_outside a v w m b (inr h) = store_above 8 (a + 8) w _ b (omega arith) ∙ store_above 8 a v m b (omega arith)

pub saved_outside : (s : State) (σ : Slot) (a b : ℕ) → (b < a) ⊎ (a + 16 ≤ b) → saved_mem σ s a b ≡ s.mem b
saved_outside s (pair_x t u) a b h = two_outside a _ _ _ b h
saved_outside s (one_x t) a b h = one_outside a _ _ b h
saved_outside s (pair_d t u) a b h = two_outside a _ _ _ b h
saved_outside s (one_d t) a b h = one_outside a _ _ b h
saved_outside s (one_q t) a b h = two_outside a _ _ _ b h

-- n bytes below SP are there to be used.
pub record Room (e : State) (n : ℕ) : Type 0 where
  pub aligned : e.sp % 16 ≡ 0
  pub enough : n ≤ e.sp
  pub small : e.sp < 2 ^ 64
  pub mapped : (b : ℕ) → e.sp ≤ b + n → b < e.sp → e.mapped b ≡ true

-- s is e with SP lower by n, and with other bytes only in between.
pub record Lower (e s : State) (n : ℕ) : Type 0 where
  pub sp : s.sp + n ≡ e.sp
  pub same : Same s e
  pub outside : (b : ℕ) → (b < s.sp) ⊎ (e.sp ≤ b) → s.mem b ≡ e.mem b

words_same : (X : ℕ → Type 0) (s e : State) → Same s e → WordsAt X e → WordsAt X s
words_same X s e q w =
    record {
      x = λ r i. subst (λ f. f r < 2 ^ 64) (sym q.x) (w.x r i);
      lo = λ r l. subst (λ f. f r < 2 ^ 64) (sym q.lo) (w.lo r l);
      hi = λ r l. subst (λ f. f r < 2 ^ 64) (sym q.hi) (w.hi r l);
    }

pub bytes_16 : (R : List Slot) → bytes R % 16 ≡ 0
bytes_16 [] = refl
bytes_16 (σ ∷ R) = let h = bytes_16 R in omega arith

abbrev pub Pushed : Core → List Slot → State → Type 0
Pushed k R e = (s : State) × Line k (pushes R) e s × Lower e s (bytes R) × HoldsAll e R s.sp s.mem

push_more : (k : Core) (σ : Slot) (R : List Slot) (e : State) → Room e (bytes (σ ∷ R)) → WordsAt (InX σ) e → Good σ → Pushed k R e → Pushed k (σ ∷ R) e
push_more k σ R e room w g p = (
  t,
  line-++ k (pushes R) (push σ ∷ []) e s t p.1 (line_one k (push σ) s t (push_one k σ s a a16 al (omega arith) mapped)),
  record { sp = omega arith; same = record { x = l.same.x; lo = l.same.lo; hi = l.same.hi; mapped = l.same.mapped }; outside = outside },
  (
    holds_same s e σ a _ l.same (saved_holds s σ a (words_same (InX σ) s e l.same w) (good_below σ g)),
    rest,
  ),
)
  where
    s : State
    s = p.0

    l : Lower e s (bytes R)
    l = p.2

    a : ℕ
    a = s.sp - 16

    a16 : a + 16 ≡ s.sp
    a16 = omega (arith, l.sp, room.enough)

    al : s.sp % 16 ≡ 0
    al = omega (arith, l.sp, room.aligned, bytes_16 R)

    t : State
    t = with_sp a (with_mem (saved_mem σ s a) s)

    mapped : (b : ℕ) → a ≤ b → b < a + 16 → s.mapped b ≡ true
    mapped b h u = ap (λ f. f b) l.same.mapped ∙ room.mapped b (omega arith) (omega arith)

    outside : (b : ℕ) → (b < a) ⊎ (e.sp ≤ b) → saved_mem σ s a b ≡ e.mem b
    outside b (inl h) = saved_outside s σ a b (inl h) ∙ l.outside b (inl (omega arith))
    outside b (inr h) = saved_outside s σ a b (inr (omega arith)) ∙ l.outside b (inr h)

    rest : HoldsAll e R (a + 16) (saved_mem σ s a)
    rest =
        subst (λ z. HoldsAll e R z (saved_mem σ s a)) (sym a16)
        (all_agree e R s.sp s.mem (saved_mem σ s a) (λ b h u. sym (saved_outside s σ a b (inr (omega arith)))) p.3)

pub pushes_save : (k : Core) (R : List Slot) (e : State) → Room e (bytes R) → WordsAt (Any InX R) e → GoodAll R → Pushed k R e
pushes_save k [] e room w g =
    (e, refl, record { sp = omega arith; same = record { x = refl; lo = refl; hi = refl; mapped = refl }; outside = λ b h. refl }, tt)
pushes_save k (σ ∷ R) e room w g = push_more k σ R e room (record { x = λ r i. w.x r (inl i); lo = w.lo; hi = w.hi }) g.0 (pushes_save k R e (record { aligned = room.aligned; enough = omega (arith, room.enough); small = room.small; mapped = λ b h l. room.mapped b (omega arith) l })
    (record { x = λ r i. w.x r (inr i); lo = w.lo; hi = w.hi }) g.1)

-- what a pop reads
abbrev pub loaded : Slot → State → State
loaded (pair_x t u) s = write_z u (load 8 (s.sp + 8) s.mem) (write_z t (load 8 s.sp s.mem) s)
loaded (one_x t) s = write_z t (load 8 s.sp s.mem) s
loaded (pair_d t u) s =
    with_v (put u (load 8 (s.sp + 8) s.mem) (put t (load 8 s.sp s.mem) s.lo)) (put u 0 (put t 0 s.hi)) s
loaded (one_d t) s = with_v (put t (load 8 s.sp s.mem) s.lo) (put t 0 s.hi) s
loaded (one_q t) s =
    with_v (put t (load 8 s.sp s.mem) s.lo) (put t (load 8 (s.sp + 8) s.mem) s.hi) s

pop_step : (k : Core) (σ : Slot) (s : State) → step k (pop σ) s ≡ only (reach s 31 (width σ) s.sp) (next (with_sp (plus s.sp 16) (loaded σ s)))
unfolding step
pop_step k (pair_x t u) s = refl
pop_step k (one_x t) s = refl
pop_step k (pair_d t u) s = refl
pop_step k (one_d t) s = refl
pop_step k (one_q t) s = refl

pub pop_one : (k : Core) (σ : Slot) (s : State) → s.sp % 16 ≡ 0 → s.sp + 16 < 2 ^ 64
    → ((b : ℕ) → s.sp ≤ b → b < s.sp + 16 → s.mapped b ≡ true)
    → step k (pop σ) s ≡ next (with_sp (s.sp + 16) (loaded σ s))
pop_one k σ s al hs hm =
    let w = width_le σ in
    pop_step k σ s
    ∙ ap (λ z. only (reach s 31 (width σ) s.sp) (next (with_sp z (loaded σ s)))) (plus_exact s.sp 16 hs)
    ∙ ap (λ g. only g (next (with_sp (s.sp + 16) (loaded σ s)))) (reach_sp s (width σ) s.sp al (omega arith) (λ b l u. hm b l (omega arith)))

-- From s to t registers that are e's stay e's, and those of the families become e's.
pub record Back (e s t : State) (X L H : ℕ → Type 0) (W : Type 0) : Type 0 where
  pub keep_x : (r : ℕ) → s.x r ≡ e.x r → t.x r ≡ e.x r
  pub set_x : (r : ℕ) → X r → t.x r ≡ e.x r
  pub keep_lo : (r : ℕ) → s.lo r ≡ e.lo r → t.lo r ≡ e.lo r
  pub set_lo : (r : ℕ) → L r → t.lo r ≡ e.lo r
  pub keep_hi : W → (r : ℕ) → s.hi r ≡ e.hi r → t.hi r ≡ e.hi r
  pub set_hi : W → (r : ℕ) → H r → t.hi r ≡ e.hi r
  pub mem : t.mem ≡ s.mem
  pub mapped : t.mapped ≡ s.mapped

keep2 : (t u v w : ℕ) (f g : ℕ → ℕ) (r : ℕ) → v ≡ g t → w ≡ g u → f r ≡ g r → put u w (put t v f) r ≡ g r
keep2 t u v w f g r p q h = put_keep u w (put t v f) g r q (put_keep t v f g r p h)

set2 : (t u v w : ℕ) (f g : ℕ → ℕ) (r : ℕ) → v ≡ g t → w ≡ g u → (r ≡ t) ⊎ (r ≡ u) → put u w (put t v f) r ≡ g r
set2 t u v w f g r p q (inl h) = put_keep u w (put t v f) g r q (put_set t v f g r p h)
set2 t u v w f g r p q (inr h) = put_set u w (put t v f) g r q h

pub pop_back : (e : State) (σ : Slot) (s : State) → Holds e σ s.sp s.mem
    → Back e s (with_sp (s.sp + 16) (loaded σ s)) (InX σ) (InLo σ) (InHi σ) (Wide σ)
pop_back e (pair_x t u) s h =
    record {
      keep_x = λ r q. keep2 t u _ _ s.x e.x r h.0 h.1 q;
      set_x = λ r q. set2 t u _ _ s.x e.x r h.0 h.1 q;
      keep_lo = λ r q. q;
      set_lo = λ r q. absurd q;
      keep_hi = λ _ r q. q;
      set_hi = λ _ r q. absurd q;
      mem = refl;
      mapped = refl;
    }
pop_back e (one_x t) s h =
    record {
      keep_x = λ r q. put_keep t _ s.x e.x r h q;
      set_x = λ r q. put_set t _ s.x e.x r h q;
      keep_lo = λ r q. q;
      set_lo = λ r q. absurd q;
      keep_hi = λ _ r q. q;
      set_hi = λ _ r q. absurd q;
      mem = refl;
      mapped = refl;
    }
pop_back e (pair_d t u) s h =
    record {
      keep_x = λ r q. q;
      set_x = λ r q. absurd q;
      keep_lo = λ r q. keep2 t u _ _ s.lo e.lo r h.0 h.1 q;
      set_lo = λ r q. set2 t u _ _ s.lo e.lo r h.0 h.1 q;
      keep_hi = λ w r q. absurd w;
      set_hi = λ w r q. absurd w;
      mem = refl;
      mapped = refl;
    }
pop_back e (one_d t) s h =
    record {
      keep_x = λ r q. q;
      set_x = λ r q. absurd q;
      keep_lo = λ r q. put_keep t _ s.lo e.lo r h q;
      set_lo = λ r q. put_set t _ s.lo e.lo r h q;
      keep_hi = λ w r q. absurd w;
      set_hi = λ w r q. absurd w;
      mem = refl;
      mapped = refl;
    }
pop_back e (one_q t) s h =
    record {
      keep_x = λ r q. q;
      set_x = λ r q. absurd q;
      keep_lo = λ r q. put_keep t _ s.lo e.lo r h.0 q;
      set_lo = λ r q. put_set t _ s.lo e.lo r h.0 q;
      keep_hi = λ w r q. put_keep t _ s.hi e.hi r h.1 q;
      set_hi = λ w r q. put_set t _ s.hi e.hi r h.1 q;
      mem = refl;
      mapped = refl;
    }

-- n bytes from SP up are there to be read.
pub record Above (s : State) (n : ℕ) : Type 0 where
  pub aligned : s.sp % 16 ≡ 0
  pub small : s.sp + n < 2 ^ 64
  pub mapped : (b : ℕ) → s.sp ≤ b → b < s.sp + n → s.mapped b ≡ true

abbrev pub Popped : Core → List Slot → State → State → Type 0
Popped k R e s =
    (t : State) × Line k (pops R) s t × (t.sp ≡ s.sp + bytes R) × Back e s t (Any InX R) (Any InLo R) (Any InHi R) (AllWide R)

pub pops_restore : (k : Core) (R : List Slot) (e s : State) → Above s (bytes R) → HoldsAll e R s.sp s.mem → Popped k R e s
pops_restore k [] e s ab h = (
  s,
  refl,
  omega arith,
  record {
    keep_x = λ r q. q;
    set_x = λ r q. absurd q;
    keep_lo = λ r q. q;
    set_lo = λ r q. absurd q;
    keep_hi = λ _ r q. q;
    set_hi = λ _ r q. absurd q;
    mem = refl;
    mapped = refl;
  },
)
pops_restore k (σ ∷ R) e s ab h = join (pops_restore k R e m (record { aligned = omega (arith, ab.aligned); small = omega (arith, ab.small); mapped = mapped }) (rest))
  where
    m : State
    m = with_sp (s.sp + 16) (loaded σ s)

    b1 : Back e s m (InX σ) (InLo σ) (InHi σ) (Wide σ)
    b1 = pop_back e σ s h.0

    mapped : (b : ℕ) → s.sp + 16 ≤ b → b < s.sp + 16 + bytes R → m.mapped b ≡ true
    mapped b l u = ap (λ f. f b) b1.mapped ∙ ab.mapped b (omega arith) (omega arith)

    rest : HoldsAll e R (s.sp + 16) m.mem
    rest = subst (λ z. HoldsAll e R (s.sp + 16) z) (sym b1.mem) h.1

    join : Popped k R e m → Popped k (σ ∷ R) e s
    join p = (
      p.0,
      (m, pop_one k σ s ab.aligned (omega (arith, ab.small)) (λ b l u. ab.mapped b l (omega arith)), p.1),
      omega (arith, p.2),
      record {
        keep_x = λ r q. p.3.keep_x r (b1.keep_x r q);
        set_x = λ r q. elim q [ inl i ↦ p.3.keep_x r (b1.set_x r i) | inr i ↦ p.3.set_x r i ];
        keep_lo = λ r q. p.3.keep_lo r (b1.keep_lo r q);
        set_lo = λ r q. elim q [ inl i ↦ p.3.keep_lo r (b1.set_lo r i) | inr i ↦ p.3.set_lo r i ];
        keep_hi = λ w r q. p.3.keep_hi w.1 r (b1.keep_hi w.0 r q);
        set_hi = λ w r q. elim q [ inl i ↦ p.3.keep_hi w.1 r (b1.set_hi w.0 r i) | inr i ↦ p.3.set_hi w.1 r i ];
        mem = p.3.mem ∙ b1.mem;
        mapped = p.3.mapped ∙ b1.mapped;
      },
    )
