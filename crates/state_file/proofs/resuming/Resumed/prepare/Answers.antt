use Rattle.std.proofs.Common.{rules, ◌≡◌, ◌≤◌, ◌^◌, ◌++◌, inl, inr, ℕ, List, [], length, Err, Some, map, ap, refl, sym, subst, arith}
use Rattle.state_file.proofs.Names.{IfErr, unwrap_or, lists, recovered, batch_spelling, NowNotes, hook_fact, AreTooLong, RefusesMaking, on_bytes, AnswersFor, IsMomentTold, rules_of, StateFault, Outset}
use Rattle.state_file.specs.Going.{IsResumed}
use Rattle.state_file.specs.ResumingLaws.{right_now}
use Rattle.state_file.proofs.LedOn.{LeadOn, added_front, lead_no_later, lead_tell, lead_until, makes_from, noting_fits, unadded}
use Rattle.state_file.proofs.resuming.Resumed.prepare.Goals as goal

pub returns-in_err-set_hooks-clause-refused : goal.returns-in_err-set_hooks-clause-refused
returns-in_err-set_hooks-clause-refused g c =
    let restored = c.args.self.restored in
    let is : c.from_residual-in_err-set_hooks.result ≡ Err c.in_err-set_hooks.field-0.0 = search rules in
    let P : StateFault → Type 0 = λ fault. (bytes : List ℕ) (outset : Outset g.row.H.Denot) → IsResumed g.H.HookHost bytes outset c.args.self → RefusesMaking g.H.HookHost (on_bytes bytes outset (map hook_fact c.args.hooks.now)) fault in
    subst (λ r. IfErr r P) (sym is) (λ bytes outset resumed.
    let begins = subst (λ unkept. NowNotes restored.server c.begin_noting.new.self (Some (unwrap_or unkept []))) resumed.unnoted c.in_ok-begin_noting.ensures.noting in
    let answers : AnswersFor g.H.HookHost bytes outset (record restored { server = c.begin_noting.new.self }) =
    λ history stands right run. noting_fits g.H.HookHost restored c.begin_noting.new.self outset history begins (resumed.answers history stands right run) in
    inr (inl (record restored { server = c.begin_noting.new.self }, answers, c.in_err-set_hooks.ensures.refused)))

pub returns-in_err-add_noted-clause-refused : goal.returns-in_err-add_noted-clause-refused
returns-in_err-add_noted-clause-refused g c =
    let hosting = g.H.HookHost in
    let restored = c.args.self.restored in
    let set = c.set_hooks.new.self in
    let is : c.from_residual-in_err-add_noted.result ≡ Err c.in_err-add_noted.field-0.0 = search rules in
    let P : StateFault → Type 0 = λ fault. (bytes : List ℕ) (outset : Outset g.row.H.Denot) → IsResumed hosting bytes outset c.args.self → RefusesMaking hosting (on_bytes bytes outset (map hook_fact c.args.hooks.now)) fault in
    subst (λ r. IfErr r P) (sym is) (λ bytes outset resumed.
    let on = on_bytes bytes outset (map hook_fact c.args.hooks.now) in
    let begins = subst (λ unkept. NowNotes restored.server c.begin_noting.new.self (Some (unwrap_or unkept []))) resumed.unnoted c.in_ok-begin_noting.ensures.noting in
    let long : 2 ^ 32 ≤ length (batch_spelling (unwrap_or set.server.unkept [])) → AreTooLong hosting on =
    λ many. record {
      old = record restored { server = c.begin_noting.new.self };
      answers = λ history stands right run. noting_fits hosting restored c.begin_noting.new.self outset history begins (resumed.answers history stands right run);
      nothing = ap (λ s. s.unkept) begins;
      new = set;
      set = c.in_ok-set_hooks.ensures.set;
      long = many;
    } in
    unadded hosting on (unwrap_or set.server.unkept []) c.in_err-add_noted.field-0.0 long c.in_err-add_noted.ensures.refused)

pub returns-clause-makes : goal.returns-clause-makes
returns-clause-makes g c = λ bytes outset resumed.
    let hosting = g.H.HookHost in
    let old = c.args.self in
    let restored = old.restored in
    let begins = subst (λ unkept. NowNotes restored.server c.begin_noting.new.self (Some (unwrap_or unkept []))) resumed.unnoted c.in_ok-begin_noting.ensures.noting in
    let set = c.set_hooks.new.self in
    let server = c.add_noted.new.server in
    let behind = lists c.add_noted.new.behind.items in
    let new = old.front.batches ++ behind in
    let told = rules_of outset.rules in
    let leads : LeadOn set.server told (recovered bytes) new = record {
      told = old.front.batches ++ lists old.behind.items;
      tell = resumed.told;
      added = added_front old.front.batches (unwrap_or set.server.unkept []) (lists old.behind.items) behind c.in_ok-add_noted.ensures.added;
    } in
    let on = on_bytes bytes outset (map hook_fact c.args.hooks.now) in
    record {
      each = λ history stands was run.
          makes_from hosting on (record { server = server; front = old.front.batches; batches = new; moment = set.moment; torn = old.torn.items }) restored c.begin_noting.new.self set told history
          (resumed.answers history stands (right_now bytes history outset.rules resumed.wider was) run) begins c.in_ok-set_hooks.ensures.set c.in_ok-set_hooks.ensures.moment
          c.add_noted.ensures.same c.in_ok-add_noted.ensures.unkept refl leads stands;
      listed = resumed.listed;
      tell = lead_tell leads;
      front_is = resumed.front_is;
      kept = lead_until leads;
      no_later = lead_no_later leads;
      later = (let le = resumed.later in let same = c.in_ok-set_hooks.ensures.moment in omega (arith, le, same));
      moment_is = subst (λ (m : ℕ). IsMomentTold (recovered bytes) m) (sym c.in_ok-set_hooks.ensures.moment) resumed.moment_is;
      torn_is = resumed.torn_is;
    }
