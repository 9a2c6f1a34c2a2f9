use Rattle.heads.proofs.fields.note_all.Goals as goal

pub returns : goal.returns
returns c = λ headers was. record {
  transfer = c.noted-found.ensures headers was.transfer;
  authorization = c.noted-found-2.ensures headers was.authorization;
  content_type = c.noted-found-3.ensures headers was.content_type;
  owner_key = c.noted-found-4.ensures headers was.owner_key;
  operator_key = c.noted-found-5.ensures headers was.operator_key;
  content_length = c.noted-found-6.ensures headers was.content_length;
}
