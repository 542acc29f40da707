use Rattle.lending_laws.proofs.row_reads_law.Goals as goal

pub returns : goal.returns
returns c number frames may_give first count place m row spots h r n b x at there within agrees = record {
  may_give = may_give;
  history = h;
  within = within;
  page = x;
  there = there;
  course = c.row_law.ensures frames place m.pages row spots r n b x at there;
  agrees = agrees;
}
