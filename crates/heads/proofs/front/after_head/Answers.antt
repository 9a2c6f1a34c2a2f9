use Rattle.std.proofs.Common.{◌≡◌, ◌+◌, ◌-◌, arith, ◌∙◌, sym, ap, rules, take, drop, map}
use Rattle.httparse.specs.Spans.{header_bytes}
use Rattle.heads.specs.Fields.{AreGoodFields}
use Rattle.heads.specs.PlacesParts.{AreFieldsIn}
use Rattle.heads.specs.Message.{IsGood, head_fields}
use Rattle.heads.specs.ReadingLaws.{some_head}
use Rattle.heads.proofs.Heads.{faulty_head, wants_body, begins_whole, few_lines, good_fields, within_more}
use Rattle.heads.proofs.front.after_head.Goals as goal

pub returns-then-head-ne-MINOR_VERSION : goal.returns-then-head-ne-MINOR_VERSION
returns-then-head-ne-MINOR_VERSION c =
    let at = c.requires.head.1 in
    faulty_head c.args.bytes.now c.requires.head.0 _ at.reads (λ good. c.if-head-ne-MINOR_VERSION.true (at.version ∙ good.version))

pub returns-then-head-gt-HEAD_SIZE_LIMIT : goal.returns-then-head-gt-HEAD_SIZE_LIMIT
returns-then-head-gt-HEAD_SIZE_LIMIT c =
    let at = c.requires.head.1 in
    faulty_head c.args.bytes.now c.requires.head.0 _ at.reads (λ good. (let size = good.size in let len = at.len in omega (arith, size, len, c.if-head-gt-HEAD_SIZE_LIMIT.true)))

pub returns-in_default : goal.returns-in_default
returns-in_default c =
    let at = c.requires.head.1 in
    let bad : ¬ (AreGoodFields (map (header_bytes c.args.bytes.now) (take c.args.head.headers c.args.headers.now))) = search rules in
    faulty_head c.args.bytes.now c.requires.head.0 _ at.reads (λ good. bad (rw at.fields good.fields))

pub returns-then-end-bytes : goal.returns-then-end-bytes
returns-then-end-bytes c =
    let h = c.requires.head.0 in
    let at = c.requires.head.1 in
    let len = at.len in
    let n = c.in-Some.fields.body_length in
    let fields : AreFieldsIn c.args.bytes.now (head_fields h) c.in-Some.fields = rw (← at.fields) c.in-Some.ensures in
    let good : IsGood h = record {
      version = sym at.version ∙ c.if-head-ne-MINOR_VERSION.false;
      lines = few_lines _ _ _ _ at.fields c.requires.room;
      size = omega (arith, len, c.if-head-gt-HEAD_SIZE_LIMIT.false);
      fields = good_fields _ _ _ fields;
    } in
    rw len (wants_body h n good fields.body fields.small c.args.bytes.now _ at.reads (omega (arith, len, c.if-end-bytes.true)))

pub returns : goal.returns
returns c =
    let h = c.requires.head.0 in
    let at = c.requires.head.1 in
    let bytes = c.args.bytes.now in
    let n = c.in-Some.fields.body_length in
    let len = at.len in
    let some = some_head h in
    let fields : AreFieldsIn c.args.bytes.now (head_fields h) c.in-Some.fields = rw (← at.fields) c.in-Some.ensures in
    let good : IsGood h = record {
      version = sym at.version ∙ c.if-head-ne-MINOR_VERSION.false;
      lines = few_lines _ _ _ _ at.fields c.requires.room;
      size = omega (arith, len, c.if-head-gt-HEAD_SIZE_LIMIT.false);
      fields = good_fields _ _ _ fields;
    } in
    let within = c.requires.within in
    let in_bytes = within.section.len_fits in (
      record {
        method = within_more _ _ _ in_bytes within.method;
        target = within_more _ _ _ in_bytes within.path;
        authorization = fields.authorization.within;
        content_type = fields.content_type.within;
        owner_key = fields.owner_key.within;
        operator_key = fields.operator_key.within;
        body = omega arith;
        end = c.if-end-bytes.false;
        some = omega (arith, len, some);
      },
      (
        record { head = h; body = take n (drop c.args.head.len bytes) },
        record {
          begins = begins_whole bytes h c.args.head.len n at.reads good fields.body c.if-end-bytes.false;
          method = at.method;
          target = at.path;
          body = ap (λ k. take k (drop c.args.head.len bytes)) (let gone : c.args.head.len + n - c.args.head.len ≡ n = omega arith in gone);
          authorization = fields.authorization.value;
          content_type = fields.content_type.value;
          owner_key = fields.owner_key.value;
          operator_key = fields.operator_key.value;
        },
      ),
    )
