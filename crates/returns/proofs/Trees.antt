-- Every call of every tree comes back. The invariant: a call changes no memory from its entry SP + incoming up to the tree's top.
use Rattle.std.proofs.Common.{◌≡◌, ℕ, ◌+◌, ◌<◌, ◌≤◌, Bool, true, false, cond, leb, ◌⊎◌, List, ◌++◌, length, sym, refl, ap, ◌∙◌, subst, inl, inr, arith}
use Rattle.std.proofs.lemmas.Bool.Decides.{leb_tells}
use Rattle.a64.specs.declared.inst.Inst.{Inst}
use Rattle.machine.specs.Machine.{State, Core, LawfulCore, at, returned, Comes}
use Rattle.sheet.specs.Plain.{PlainSheet}
use Rattle.sheet.specs.Saved.{clobber_size_of, sets_up, setup_size}
use Rattle.frame.specs.Pieces.{incoming_args_diff_of, stack_size_of}
use Rattle.returns.specs.Premises.{need, Entry, Lawful, Leaves}
use Rattle.returns.specs.Returns.{CameBack, opens, closes, standing}
use Rattle.returns.specs.Trees.{Fun, body_at, epilogue_at, Stands, Own, Calls, resumed, Tree, end, own, call, Runs, TreesReturn}
use Rattle.returns.proofs.Line.{Ends}
use Rattle.returns.proofs.Adjust.{tf}
use Rattle.returns.proofs.Whole.{Framed, ends_in, saves_bytes}
use Rattle.returns.proofs.Laid.{frame_of, slots_bytes, bare_sheet, regular_sets, kept_low}
use Rattle.returns.proofs.Sheets.{Opens, opens_goes, Closes, closes_ends, Left, lawful_refl, leaves_refl}

-- What is known in a body: f was entered in e, s is the state after the prologue, a is the state now.
record Inside (k : Core) (code : List Inst) (low high : ℕ) (f : Fun) (e s a : State) : Type 0 where
  law : LawfulCore k
  stands : Stands code f
  entry : Entry k f.sheet e
  framed : Framed k (frame_of f.sheet) e s
  bottom : low + need f.sheet ≤ e.sp
  top : e.sp + f.sheet.sizes.incoming ≤ high
  lawful : Lawful f.sheet s a
  leaves : Leaves f.sheet s a
  quiet : (c : ℕ) → e.sp + f.sheet.sizes.incoming ≤ c → c < high → a.mem c ≡ e.mem c

-- What is known of a call that came back.
record Over (high : ℕ) (f : Fun) (e u : State) : Type 0 where
  back : CameBack f.sheet e u
  mapped : u.mapped ≡ e.mapped
  quiet : (c : ℕ) → e.sp + f.sheet.sizes.incoming ≤ c → c < high → u.mem c ≡ e.mem c

over : (k : Core) (code : List Inst) (low high : ℕ) (f : Fun) (e s a u : State) → Inside k code low high f e s a → Left f.sheet e a u → Over high f e u
over k code low high f e s a u i l =
    record {
      back = l.back;
      mapped = l.mapped ∙ i.lawful.mapped ∙ i.framed.mapped;
      quiet = λ c p q. ap (λ g. g c) l.mem ∙ i.quiet c p q;
    }

-- SP after the prologue, in the sheet's words
framed_sp : (k : Core) (h : PlainSheet) (e s : State) → Framed k (frame_of h) e s
    → s.sp + stack_size_of h + (clobber_size_of h + setup_size h) + incoming_args_diff_of h ≡ e.sp
framed_sp k h e s v =
    let a = saves_bytes (frame_of h) in
    let b = slots_bytes h in
    omega (arith, v.sp)

-- the fixed and outgoing bytes, the saves and the pair lie below the entry SP
above_own : (k : Core) (code : List Inst) (low high : ℕ) (f : Fun) (e s a : State) → Inside k code low high f e s a → (c : ℕ) → e.sp + f.sheet.sizes.incoming ≤ c
    → (c < s.x 29 + 16) ⊎ (s.x 29 + 16 + f.sheet.sizes.tail ≤ c)
above_own k code low high f e s a i c l = go (sets_up f.sheet) refl
  where
    larger : f.sheet.sizes.incoming ≤ f.sheet.sizes.tail
    larger = i.stands.accepted.larger

    go : (b : Bool) → sets_up f.sheet ≡ b → (c < s.x 29 + 16) ⊎ (s.x 29 + 16 + f.sheet.sizes.tail ≤ c)
    go true q =
        let size : setup_size f.sheet ≡ 16 = ap (λ b. cond b 16 0) q in
        let z = slots_bytes f.sheet in
        let w = framed_sp k f.sheet e s i.framed in
        let fp = i.framed.fp q in
        let lt = larger in
        inr (omega arith)
    go false q = bare (leb (s.x 29 + 16) c) (leb_tells (s.x 29 + 16) c)
      where
        bare : (b : Bool) → ((b ≡ true) × (s.x 29 + 16 ≤ c)) ⊎ ((b ≡ false) × (c < s.x 29 + 16)) → (c < s.x 29 + 16) ⊎ (s.x 29 + 16 + f.sheet.sizes.tail ≤ c)
        bare b (inl h) = inr (omega (arith, h.1, (bare_sheet f.sheet q).tail))
        bare b (inr h) = inl h.1

step_own : (k : Core) (code : List Inst) (low high : ℕ) (f : Fun) (e s a b : State) → Inside k code low high f e s a → Own low high f.sheet s a b → Inside k code low high f e s b
step_own k code low high f e s a b i o =
    let w = framed_sp k f.sheet e s i.framed in
    record {
      law = i.law;
      stands = i.stands;
      entry = i.entry;
      framed = i.framed;
      bottom = i.bottom;
      top = i.top;
      lawful = o.lawful;
      leaves =
          record {
            x = λ n h c. o.leaves.x n h c ∙ i.leaves.x n h c;
            lo = λ n h c. o.leaves.lo n h c ∙ i.leaves.lo n h c;
            hi = λ n h c. o.leaves.hi n h c ∙ i.leaves.hi n h c;
          };
      quiet = λ c l h.
          o.writes c (omega (arith, i.bottom)) h (inr (omega arith)) (above_own k code low high f e s a i c l) ∙ i.quiet c l h;
    }

outgoing_le : (h : PlainSheet) → h.sizes.outgoing ≤ stack_size_of h
outgoing_le h = omega arith

step_call : (k : Core) (code : List Inst) (low high : ℕ) (f g : Fun) (e s a e' u : State) → Inside k code low high f e s a → Calls k code low f g a e'
    → Over high g e' u → Inside k code low high f e s (resumed g.sheet u)
step_call k code low high f g e s a e' u i c l =
    let w = framed_sp k f.sheet e s i.framed in
    let o = outgoing_le f.sheet in
    let fit = c.fits in
    let csp = c.sp in
    let isp = i.lawful.sp in
    let top = i.top in
    record {
      law = i.law;
      stands = i.stands;
      entry = i.entry;
      framed = i.framed;
      bottom = i.bottom;
      top = i.top;
      lawful =
          record {
            sp = omega (arith, l.back.sp);
            fp = l.back.fp ∙ c.x 29 (omega arith) ∙ i.lawful.fp;
            lr = λ q. absurd (tf (sym (regular_sets f.sheet c.regular) ∙ q));
            mapped = l.mapped ∙ c.mapped ∙ i.lawful.mapped;
            bytes = λ b h t. l.quiet b (omega arith) (omega arith) ∙ ap (λ z. z b) c.mem ∙ i.lawful.bytes b h t;
          };
      leaves =
          record {
            x = λ n h d. l.back.x n (c.keeps_x n h d) ∙ c.x n (omega (arith, (kept_low f.sheet n h).0)) ∙ i.leaves.x n h d;
            lo = λ n h d. l.back.lo n (c.keeps_lo n h d) ∙ ap (λ z. z n) c.lo ∙ i.leaves.lo n h d;
            hi = λ n h d. l.back.hi n (c.keeps_hi n h d) ∙ ap (λ z. z n) c.hi ∙ i.leaves.hi n h d;
          };
      quiet = λ b h t. l.quiet b (omega arith) t ∙ ap (λ z. z b) c.mem ∙ i.quiet b h t;
    }

-- a call begins
begin : (k : Core) (code : List Inst) (low high : ℕ) (f : Fun) (e s : State) → LawfulCore k → Stands code f → Entry k f.sheet e → low + need f.sheet ≤ e.sp
    → e.sp + f.sheet.sizes.incoming ≤ high → Framed k (frame_of f.sheet) e s → Inside k code low high f e s s
begin k code low high f e s law st en bot top fr =
    record {
      law = law;
      stands = st;
      entry = en;
      framed = fr;
      bottom = bot;
      top = top;
      lawful = lawful_refl f.sheet s;
      leaves = leaves_refl f.sheet s;
      quiet = λ c l h. fr.outside c (inr (omega arith));
    }

enters : (k : Core) (code : List Inst) (f : Fun) (e : State) → Stands code f → (p : Opens k f.sheet e)
    → Comes k code (at f.place e) (at (body_at f) p.0)
enters k code f e st p =
    subst (λ z. Comes k z (at f.place e) (at (body_at f) p.0)) (sym st.text)
    (subst (λ n. Comes k (standing f.sheet f.words st.before st.behind) (at n e) (at (n + length (opens f.sheet)) p.0)) st.place
    (p.1 st.before (f.words ++ (closes f.sheet ++ st.behind))))

leaves_by : (k : Core) (code : List Inst) (f : Fun) (a u : State) (n : ℕ) → Stands code f → Ends k (closes f.sheet) a n u
    → Comes k code (at (epilogue_at f) a) (returned n u)
leaves_by k code f a u n st g =
    subst (λ z. Comes k z (at (epilogue_at f) a) (returned n u)) (sym st.text)
    (subst (λ m. Comes k (standing f.sheet f.words st.before st.behind) (at (m + length (opens f.sheet) + length f.words) a) (returned n u)) st.place
    (ends_in k st.before (opens f.sheet) f.words (closes f.sheet) st.behind a u n g))

runs : (k : Core) (code : List Inst) (low high : ℕ) (tree : Tree) (f : Fun) (e s a : State) (K : State → Type 0)
    → Inside k code low high f e s a → ((u : State) → Over high f e u → K u) → Runs k code low high f e s a tree K
runs k code low high end f e s a K i next =
    fin (closes_ends k f.sheet e s a i.law i.stands.accepted i.entry i.framed i.lawful i.leaves)
  where
    fin : Closes k f.sheet e a → (u : State) × Comes k code (at (epilogue_at f) a) (returned (e.x 30) u) × CameBack f.sheet e u × K u
    fin z = (z.0, leaves_by k code f a z.0 (e.x 30) i.stands z.1, z.2.back, next z.0 (over k code low high f e s a z.0 i z.2))
runs k code low high (own rest) f e s a K i next = λ b o. runs k code low high rest f e s b K (step_own k code low high f e s a b i o) next
runs k code low high (call g inside rest) f e s a K i next = λ e' c.
    let p = opens_goes k g.sheet e' i.law c.stands.accepted c.entry in (
      p.0,
      enters k code g e' c.stands p,
      runs k code low high inside g e' p.0 p.0 (λ u. Runs k code low high f e s (resumed g.sheet u) rest K)
          (begin k code low high g e' p.0 i.law c.stands c.entry c.stretch (callee_top i c) p.2)
          (λ u l. runs k code low high rest f e s (resumed g.sheet u) K (step_call k code low high f g e s a e' u i c l) next),
    )
  where
    callee_top : {e' : State} → Inside k code low high f e s a → Calls k code low f g a e' → e'.sp + g.sheet.sizes.incoming ≤ high
    callee_top i c =
        let w = framed_sp k f.sheet e s i.framed in
        omega (arith, c.sp, i.lawful.sp, c.fits, outgoing_le f.sheet, i.top)

pub each_tree_returns : TreesReturn
each_tree_returns k code low f e tree law st en bot = go (opens_goes k f.sheet e law st.accepted en)
  where
    go : Opens k f.sheet e
        → (s : State) × Comes k code (at f.place e) (at (body_at f) s) × Runs k code low (e.sp + f.sheet.sizes.incoming) f e s s tree (λ u. Unit {0})
    go p = (
      p.0,
      enters k code f e st p,
      runs k code low (e.sp + f.sheet.sizes.incoming) tree f e p.0 p.0 (λ u. Unit {0})
          (begin k code low (e.sp + f.sheet.sizes.incoming) f e p.0 law st en bot (omega arith) p.2) (λ u l. tt),
    )
